use Rattle.std.proofs.Common.{sym}
use Rattle.pp_values.proofs.Lists.{members_of-data_of}
use Rattle.pp_values.proofs.value.Value.into_members.Goals as goal

pub returns-in-List : goal.returns-in-List
returns-in-List c = rw c.in-List.is (sym (members_of-data_of _))
