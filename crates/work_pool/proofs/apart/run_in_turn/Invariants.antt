use Rattle.std.specs.List.{AllZip}
use Rattle.work_pool.proofs.apart.run_in_turn.Given as goal

abbrev pub invariant-loop-job : goal.invariant-loop-job
invariant-loop-job g l = AllZip g.J.Job.promise l.yielded l.done.items
