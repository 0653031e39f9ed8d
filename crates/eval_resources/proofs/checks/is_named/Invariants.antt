-- What is left decides.
use Rattle.std.proofs.Common.{◌≡◌, length}
use Rattle.eval_resources.specs.GoodLines.{is_named}
use Rattle.res_core.specs.Lines.{lines_of}
use Rattle.eval_resources.proofs.checks.is_named.Given as goal

abbrev pub invariant-loop-line : goal.invariant-loop-line
invariant-loop-line l = is_named (lines_of l.lines) l.name ≡ is_named (lines_of l.rest) l.name

abbrev pub decreases-loop-line : goal.decreases-loop-line
decreases-loop-line l = length l.rest
