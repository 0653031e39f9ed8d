-- What is there, and what the rest adds, is what all of it adds.
use Rattle.std.proofs.Common.{◌≡◌, ◌++◌, length}
use Rattle.eval_resources.specs.Bodies.{not_among}
use Rattle.res_core.specs.Lines.{lines_of}
use Rattle.eval_resources.proofs.filling.with_unwritten.Given as goal

abbrev pub invariant-loop-line : goal.invariant-loop-line
invariant-loop-line l =
    l.all ++ not_among l.names.keys (lines_of l.rest)
    ≡ l.fn.done ++ not_among l.names.keys (lines_of l.lines)

abbrev pub decreases-loop-line : goal.decreases-loop-line
decreases-loop-line l = length l.rest
