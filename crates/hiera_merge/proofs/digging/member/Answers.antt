use Rattle.pp_values.proofs.Lists.{pairs_of-entries_of, members_of-data_of}
use Rattle.hiera_merge.proofs.digging.member.Goals as goal

pub returns-in-Hash : goal.returns-in-Hash
returns-in-Hash c = rw (c.in-Hash.is, pairs_of-entries_of c.in-Hash.pairs, ← c.as_slice.ensures.pairs) c.value_of.ensures

pub returns-in-List : goal.returns-in-List
returns-in-List c = rw (c.in-List.is, members_of-data_of c.in-List.items, ← c.as_slice-in-List.ensures) c.item_at.ensures
