-- What is left decides.
use Rattle.std.proofs.Common.{◌≡◌, [], length, map}
use Rattle.expr_eval.specs.Turns.{only}
use Rattle.eval_calls.specs.Iterating.{turns_from}
use Rattle.eval_calls.specs.Lambdas.{opened}
use Rattle.eval_calls.proofs.iterating.take_members.Given as goal
use Rattle.pp_values.specs.Views.{views}

abbrev pub invariant-loop-member : goal.invariant-loop-member
invariant-loop-member g l =
    turns_from (g.M.Meaning.within l.forms.left) l.function (opened l.lambda) [] (map only (views l.members)) l.line l.here l.fn.world
    ≡ turns_from (g.M.Meaning.within l.forms.left) l.function (opened l.lambda) l.done (map only (views l.rest)) l.line l.here l.world

abbrev pub decreases-loop-member : goal.decreases-loop-member
decreases-loop-member g l = length l.rest
