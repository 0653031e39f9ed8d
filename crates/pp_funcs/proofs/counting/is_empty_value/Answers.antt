-- The members of a list, and the pairs of a hash, as lists.
use Rattle.std.proofs.Common.{refl}
use Rattle.pp_values.proofs.Lists.{members_of-data_of, pairs_of-entries_of}
use Rattle.pp_funcs.proofs.counting.is_empty_value.Goals as goal

pub returns-in-List : goal.returns-in-List
returns-in-List c = rw (c.in-List.is, members_of-data_of c.in-List.items, c.len.ensures) refl

pub returns-in-Hash : goal.returns-in-Hash
returns-in-Hash c = rw (c.in-Hash.is, pairs_of-entries_of c.in-Hash.pairs, c.len-in-Hash.ensures) refl
