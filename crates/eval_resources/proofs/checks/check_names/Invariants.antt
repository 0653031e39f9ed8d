-- What is left decides.
use Rattle.std.proofs.Common.{◌≡◌, length}
use Rattle.eval_resources.specs.Checks.{names_known}
use Rattle.res_core.specs.Lines.{lines_of}
use Rattle.eval_resources.proofs.checks.check_names.Given as goal

abbrev pub invariant-loop-line : goal.invariant-loop-line
invariant-loop-line l =
    names_known l.what l.known (lines_of l.lines) ≡ names_known l.what l.known (lines_of l.rest)

abbrev pub decreases-loop-line : goal.decreases-loop-line
decreases-loop-line l = length l.rest
