-- What is left decides.
use Rattle.std.proofs.Common.{◌≡◌, [], length}
use Rattle.eval_resources.specs.Declaring.{set_from}
use Rattle.res_core.specs.Lines.{lines_of}
use Rattle.eval_resources.proofs.attributes.gathered.Given as goal

abbrev pub invariant-loop-line : goal.invariant-loop-line
invariant-loop-line l = set_from [] (lines_of l.lines) ≡ set_from l.set (lines_of l.rest)

abbrev pub decreases-loop-line : goal.decreases-loop-line
decreases-loop-line l = length l.rest
