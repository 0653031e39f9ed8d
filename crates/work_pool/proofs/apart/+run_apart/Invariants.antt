use Rattle.std.proofs.Common.{length}
use Rattle.work_pool.proofs.apart.+run_apart.Given as goal

abbrev pub decreases-run_apart : goal.decreases-run_apart
decreases-run_apart g l = length l.groups.items
