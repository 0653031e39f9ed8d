use Rattle.std.specs.List.{AllZip}
use Rattle.work_pool.proofs.side.run_waiting_in_turn.Given as goal

abbrev pub invariant-loop-job : goal.invariant-loop-job
invariant-loop-job g l = AllZip g.J.WaitingJob.promise l.yielded l.done.items
