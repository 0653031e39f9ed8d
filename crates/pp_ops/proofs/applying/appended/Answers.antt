-- The members of a list, as a list.
use Rattle.std.proofs.Common.{refl}
use Rattle.pp_values.proofs.Lists.{members_of-data_of}
use Rattle.pp_ops.proofs.applying.appended.Goals as goal

pub returns-in_ok-with_member-in-List : goal.returns-in_ok-with_member-in-List
returns-in_ok-with_member-in-List c =
    rw (c.in-List.is, members_of-data_of c.in-List.items, c.in_ok-with_member-in-List.ensures, c.as_slice.ensures) refl
