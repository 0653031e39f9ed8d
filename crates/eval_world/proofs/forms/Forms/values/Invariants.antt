-- What is left decides.
use Rattle.std.proofs.Common.{◌≡◌, [], length}
use Rattle.eval_world.specs.Arguments.{values_from}
use Rattle.eval_world.proofs.forms.Forms.values.Given as goal

abbrev pub invariant-loop-arg : goal.invariant-loop-arg
invariant-loop-arg g l = values_from (g.M.Meaning.within l.self.left) [] l.args l.here l.fn.world
    ≡ values_from (g.M.Meaning.within l.self.left) l.done l.rest l.here l.world

abbrev pub decreases-loop-arg : goal.decreases-loop-arg
decreases-loop-arg g l = length l.rest
