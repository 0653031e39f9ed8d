-- What is there, and what the rest adds, is what all of it adds.
use Rattle.std.proofs.Common.{◌≡◌, ◌++◌, length}
use Rattle.eval_resources.specs.Bodies.{all_not_among}
use Rattle.eval_resources.proofs.filling.with_all_unwritten.Given as goal

abbrev pub invariant-loop-lines : goal.invariant-loop-lines
invariant-loop-lines l =
    l.all ++ all_not_among l.names.keys l.rest ≡ l.fn.done ++ all_not_among l.names.keys l.bodies

abbrev pub decreases-loop-lines : goal.decreases-loop-lines
decreases-loop-lines l = length l.rest
