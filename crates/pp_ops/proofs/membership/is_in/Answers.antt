-- The members of a list, and the pairs of a hash, as lists.
use Rattle.pp_values.proofs.Lists.{members_of-data_of, pairs_of-entries_of}
use Rattle.pp_ops.proofs.membership.is_in.Goals as goal

pub returns-in-List : goal.returns-in-List
returns-in-List c = rw (c.in-List.is, members_of-data_of c.in-List.items, ← c.as_slice.ensures) c.has_equal.ensures

pub returns-in-Hash : goal.returns-in-Hash
returns-in-Hash c = rw (
  c.in-Hash.is,
  pairs_of-entries_of c.in-Hash.pairs,
  ← c.as_slice-in-Hash.ensures.pairs,
) c.has_key.ensures
