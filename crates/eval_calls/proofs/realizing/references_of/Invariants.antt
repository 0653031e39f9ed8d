-- What is left decides.
use Rattle.std.proofs.Common.{◌≡◌, [], length}
use Rattle.pp_values.specs.Views.{views}
use Rattle.eval_calls.specs.Realizing.{arguments_from}
use Rattle.eval_calls.proofs.realizing.references_of.Given as goal

abbrev pub invariant-loop-argument : goal.invariant-loop-argument
invariant-loop-argument l = arguments_from [] (views l.arguments) ≡ arguments_from l.done (views l.rest)

abbrev pub decreases-loop-argument : goal.decreases-loop-argument
decreases-loop-argument l = length l.rest
