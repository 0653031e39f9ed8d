-- What is left decides.
use Rattle.std.proofs.Common.{◌≡◌, length}
use Rattle.pp_values.specs.Views.{pair_views}
use Rattle.eval_calls.specs.Templates.{are_given}
use Rattle.eval_calls.proofs.templates.are_given.Given as goal

abbrev pub invariant-loop-param : goal.invariant-loop-param
invariant-loop-param l = are_given (pair_views l.given) l.params ≡ are_given (pair_views l.given) l.rest

abbrev pub decreases-loop-param : goal.decreases-loop-param
decreases-loop-param l = length l.rest
