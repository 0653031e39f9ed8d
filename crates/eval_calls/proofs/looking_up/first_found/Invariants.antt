-- What is left decides.
use Rattle.std.proofs.Common.{◌≡◌, length}
use Rattle.eval_calls.specs.LookUps.{first_found}
use Rattle.eval_calls.proofs.looking_up.first_found.Given as goal

abbrev pub invariant-loop-key : goal.invariant-loop-key
invariant-loop-key l = first_found l.scope.number l.keys l.merge l.at l.world
    ≡ first_found l.scope.number l.rest l.merge l.at l.world

abbrev pub decreases-loop-key : goal.decreases-loop-key
decreases-loop-key l = length l.rest
