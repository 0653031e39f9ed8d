-- The members of a list, and the pairs of a hash, as lists.
use Rattle.std.proofs.Common.{refl}
use Rattle.pp_values.proofs.Lists.{members_of-data_of, pairs_of-entries_of}
use Rattle.pp_ops.proofs.applying.difference.Goals as goal

pub returns-in_ok-without-in-List-default : goal.returns-in_ok-without-in-List-default
returns-in_ok-without-in-List-default c =
    rw (
      c.in-List-default.is-0,
      members_of-data_of c.in-List-default.a,
      c.in_ok-without-in-List-default.ensures,
      c.as_slice.ensures,
    ) refl

pub returns-in_ok-without_keys-in-Hash-default : goal.returns-in_ok-without_keys-in-Hash-default
returns-in_ok-without_keys-in-Hash-default c =
    rw (
      c.in-Hash-default.is-0,
      pairs_of-entries_of c.in-Hash-default.a,
      c.in_ok-without_keys-in-Hash-default.ensures,
    ) refl
