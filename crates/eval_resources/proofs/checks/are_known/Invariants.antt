-- What is left decides.
use Rattle.std.proofs.Common.{◌≡◌, length}
use Rattle.eval_resources.specs.GoodLines.{are_known}
use Rattle.res_core.specs.Lines.{lines_of}
use Rattle.eval_resources.proofs.checks.are_known.Given as goal

abbrev pub invariant-loop-line : goal.invariant-loop-line
invariant-loop-line l = are_known l.known (lines_of l.lines) ≡ are_known l.known (lines_of l.rest)

abbrev pub decreases-loop-line : goal.decreases-loop-line
decreases-loop-line l = length l.rest
