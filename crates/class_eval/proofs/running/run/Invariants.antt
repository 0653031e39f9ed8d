-- What is left decides.
use Rattle.std.proofs.Common.{◌≡◌, length}
use Rattle.class_eval.specs.Meaning.{within}
use Rattle.class_eval.specs.Running.{run_from}
use Rattle.class_eval.proofs.running.run.Given as goal

abbrev pub invariant-loop-next : goal.invariant-loop-next
invariant-loop-next l = run_from (within l.left) l.block l.here l.fn.world
    ≡ run_from (within l.left) l.rest l.here l.world

abbrev pub decreases-loop-next : goal.decreases-loop-next
decreases-loop-next l = length l.rest
