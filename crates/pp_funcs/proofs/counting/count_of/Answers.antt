-- The members of a list, and the pairs of a hash, as lists.
use Rattle.pp_values.proofs.Lists.{members_of-data_of, pairs_of-entries_of}
use Rattle.pp_funcs.proofs.counting.count_of.Goals as goal

pub returns-in-List : goal.returns-in-List
returns-in-List c = rw (c.in-List.is, members_of-data_of c.in-List.items, ← c.len.ensures) c.natural-in-List.ensures

pub returns-in-Hash : goal.returns-in-Hash
returns-in-Hash c =
    rw (c.in-Hash.is, pairs_of-entries_of c.in-Hash.pairs, ← c.len-in-Hash.ensures) c.natural-in-Hash.ensures
