use Rattle.std.proofs.Common.{length}
use Rattle.work_pool.proofs.side.+run_in_scope.Given as goal

abbrev pub decreases-run_in_scope : goal.decreases-run_in_scope
decreases-run_in_scope g l = length l.groups.items
