-- What is left of both decides.
use Rattle.std.proofs.Common.{◌≡◌, length}
use Rattle.pp_values.specs.Views.{views}
use Rattle.eval_calls.specs.Functions.{taken_by}
use Rattle.eval_calls.proofs.functions.taken_by.Given as goal

abbrev pub invariant-loop-argument : goal.invariant-loop-argument
invariant-loop-argument l = taken_by (views l.arguments) l.params ≡ taken_by (views l.left) l.rest

abbrev pub decreases-loop-argument : goal.decreases-loop-argument
decreases-loop-argument l = length l.left
