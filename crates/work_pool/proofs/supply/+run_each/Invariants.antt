use Rattle.work_pool.proofs.supply.+run_each.Given as goal

abbrev pub decreases-run_each : goal.decreases-run_each
decreases-run_each g l = l.most
