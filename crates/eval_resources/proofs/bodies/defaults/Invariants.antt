-- What is left decides.
use Rattle.std.proofs.Common.{◌≡◌, [], length}
use Rattle.eval_resources.specs.Bodies.{defaults_from}
use Rattle.eval_resources.proofs.bodies.defaults.Given as goal

abbrev pub invariant-loop-body : goal.invariant-loop-body
invariant-loop-body g l =
    defaults_from (g.M.Meaning.within l.forms.left) [] l.written l.here l.fn.world
    ≡ defaults_from (g.M.Meaning.within l.forms.left) l.done l.rest l.here l.world

abbrev pub decreases-loop-body : goal.decreases-loop-body
decreases-loop-body g l = length l.rest
