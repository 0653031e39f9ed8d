-- What is left has it as the whole has.
use Rattle.std.proofs.Common.{◌≡◌, length}
use Rattle.eval_calls.specs.Functions.{have_defaults}
use Rattle.eval_calls.proofs.functions.have_defaults.Given as goal

abbrev pub invariant-loop-param : goal.invariant-loop-param
invariant-loop-param l = have_defaults l.params ≡ have_defaults l.rest

abbrev pub decreases-loop-param : goal.decreases-loop-param
decreases-loop-param l = length l.rest
