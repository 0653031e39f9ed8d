-- What is left decides.
use Rattle.std.proofs.Common.{◌≡◌, length}
use Rattle.eval_calls.specs.Iterating.{reduce_from}
use Rattle.eval_calls.specs.Lambdas.{opened}
use Rattle.eval_calls.proofs.iterating.reduce_rest.Given as goal
use Rattle.pp_values.specs.Views.{views}

abbrev pub invariant-loop-member : goal.invariant-loop-member
invariant-loop-member g l =
    reduce_from (g.M.Meaning.within l.forms.left) (opened l.lambda) l.fn.memo (views l.members) l.line l.here l.fn.world
    ≡ reduce_from (g.M.Meaning.within l.forms.left) (opened l.lambda) l.memo (views l.rest) l.line l.here l.world

abbrev pub decreases-loop-member : goal.decreases-loop-member
decreases-loop-member g l = length l.rest
