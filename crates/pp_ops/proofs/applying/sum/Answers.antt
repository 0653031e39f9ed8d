-- The members of lists, and the pairs of hashes, as lists.
use Rattle.std.proofs.Common.{refl}
use Rattle.pp_values.proofs.Lists.{members_of-data_of, pairs_of-entries_of}
use Rattle.pp_ops.proofs.applying.sum.Goals as goal

pub returns-in_ok-extended-in-List-default : goal.returns-in_ok-extended-in-List-default
returns-in_ok-extended-in-List-default c =
    rw (
      c.in-List-default.is-0,
      members_of-data_of c.in-List-default.a,
      c.in_ok-extended-in-List-default.ensures,
      c.as_slice.ensures,
    ) refl

pub returns-in_ok-merged-in-Hash-Hash : goal.returns-in_ok-merged-in-Hash-Hash
returns-in_ok-merged-in-Hash-Hash c =
    rw (
      c.in-Hash-Hash.is-0,
      c.in-Hash-Hash.is-1,
      pairs_of-entries_of c.in-Hash-Hash.a,
      pairs_of-entries_of c.in-Hash-Hash.b,
      c.in_ok-merged-in-Hash-Hash.ensures,
    ) refl
