-- What is left decides.
use Rattle.std.proofs.Common.{◌≡◌, length}
use Rattle.res_core.specs.Lines.{lines_of}
use Rattle.eval_overrides.specs.DefaultStatements.{defaults_put}
use Rattle.eval_overrides.proofs.defaults.put_defaults.Given as goal

abbrev pub invariant-loop-line : goal.invariant-loop-line
invariant-loop-line l =
    defaults_put l.kind (lines_of l.lines) l.here l.fn.world ≡ defaults_put l.kind (lines_of l.rest) l.here l.world

abbrev pub decreases-loop-line : goal.decreases-loop-line
decreases-loop-line l = length l.rest
