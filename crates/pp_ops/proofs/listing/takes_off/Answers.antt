-- The members of a list, as a list.
use Rattle.pp_values.proofs.Lists.{members_of-data_of}
use Rattle.pp_ops.proofs.listing.takes_off.Goals as goal

pub returns-in-List : goal.returns-in-List
returns-in-List c = rw (c.in-List.is, members_of-data_of c.in-List.others, ← c.as_slice.ensures) c.has_same.ensures
