-- What is left decides.
use Rattle.std.proofs.Common.{◌≡◌, length}
use Rattle.eval_resources.specs.Resources.{declare_bodies}
use Rattle.eval_resources.proofs.titles.declare_bodies.Given as goal

abbrev pub invariant-loop-body : goal.invariant-loop-body
invariant-loop-body g l =
    declare_bodies (g.M.Meaning.within l.forms.left) l.form l.kind l.bodies l.here l.fn.world
    ≡ declare_bodies (g.M.Meaning.within l.forms.left) l.form l.kind l.rest l.here l.world

abbrev pub decreases-loop-body : goal.decreases-loop-body
decreases-loop-body g l = length l.rest
