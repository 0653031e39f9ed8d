-- What is left decides.
use Rattle.std.proofs.Common.{◌≡◌, ◌+◌, ◌≤◌, [], length}
use Rattle.eval_resources.specs.Bodies.{bodies_from}
use Rattle.eval_resources.proofs.bodies.others.Given as goal

abbrev pub invariant-loop-body : goal.invariant-loop-body
invariant-loop-body g l = record {
  same :
      bodies_from (g.M.Meaning.within l.forms.left) l.defaults 0 [] l.written l.here l.fn.world
      ≡ bodies_from (g.M.Meaning.within l.forms.left) l.defaults l.before l.done l.rest l.here l.world;
  few : l.before + length l.rest ≤ l.count;
}

abbrev pub decreases-loop-body : goal.decreases-loop-body
decreases-loop-body g l = length l.rest
