-- What is left decides.
use Rattle.std.proofs.Common.{◌≡◌, [], length}
use Rattle.eval_calls.specs.Iterating.{turns_from}
use Rattle.eval_calls.specs.Lambdas.{opened}
use Rattle.eval_calls.proofs.iterating.take_turns.Given as goal

abbrev pub invariant-loop-turn : goal.invariant-loop-turn
invariant-loop-turn g l =
    turns_from (g.M.Meaning.within l.forms.left) l.function (opened l.lambda) [] l.fn.turns l.line l.here
    l.fn.world
    ≡ turns_from (g.M.Meaning.within l.forms.left) l.function (opened l.lambda) l.done l.left l.line l.here
    l.world

abbrev pub decreases-loop-turn : goal.decreases-loop-turn
decreases-loop-turn g l = length l.left
