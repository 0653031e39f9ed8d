-- What is left decides.
use Rattle.std.proofs.Common.{◌≡◌, length}
use Rattle.eval_calls.specs.Realizing.{realize_from}
use Rattle.eval_calls.proofs.realizing.realize_each.Given as goal

abbrev pub invariant-loop-reference : goal.invariant-loop-reference
invariant-loop-reference l =
    realize_from l.references l.line l.here l.fn.world ≡ realize_from l.rest l.line l.here l.world

abbrev pub decreases-loop-reference : goal.decreases-loop-reference
decreases-loop-reference l = length l.rest
