-- What is left decides.
use Rattle.std.proofs.Common.{◌≡◌, length}
use Rattle.eval_resources.specs.GoodLines.{are_apart}
use Rattle.res_core.specs.Lines.{lines_of}
use Rattle.eval_resources.proofs.checks.are_apart.Given as goal

abbrev pub invariant-loop-line : goal.invariant-loop-line
invariant-loop-line l = are_apart (lines_of l.lines) ≡ are_apart (lines_of l.rest)

abbrev pub decreases-loop-line : goal.decreases-loop-line
decreases-loop-line l = length l.rest
