-- What is left decides, with the names so far.
use Rattle.std.proofs.Common.{◌≡◌, [], length}
use Rattle.eval_resources.specs.Checks.{names_apart}
use Rattle.res_core.specs.Lines.{lines_of}
use Rattle.eval_resources.proofs.checks.check_apart.Given as goal

abbrev pub invariant-loop-line : goal.invariant-loop-line
invariant-loop-line l =
    names_apart l.what [] (lines_of l.lines) ≡ names_apart l.what l.names.keys (lines_of l.rest)

abbrev pub decreases-loop-line : goal.decreases-loop-line
decreases-loop-line l = length l.rest
