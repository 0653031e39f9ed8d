-- What is left decides.
use Rattle.std.proofs.Common.{◌≡◌, length}
use Rattle.pp_values.specs.Views.{pair_views}
use Rattle.eval_calls.specs.Templates.{are_params}
use Rattle.eval_calls.proofs.templates.are_params.Given as goal

abbrev pub invariant-loop-pair : goal.invariant-loop-pair
invariant-loop-pair l = are_params l.params (pair_views l.given) ≡ are_params l.params (pair_views l.rest)

abbrev pub decreases-loop-pair : goal.decreases-loop-pair
decreases-loop-pair l = length l.rest
