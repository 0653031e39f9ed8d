-- What is left decides.
use Rattle.std.proofs.Common.{◌≡◌, length}
use Rattle.pp_values.specs.Views.{pair_views}
use Rattle.eval_calls.specs.Templates.{names_from}
use Rattle.eval_calls.proofs.templates.set_names.Given as goal

abbrev pub invariant-loop-pair : goal.invariant-loop-pair
invariant-loop-pair l = names_from (pair_views l.given) l.at l.own l.fn.world
    ≡ names_from (pair_views l.rest) l.at l.own l.world

abbrev pub decreases-loop-pair : goal.decreases-loop-pair
decreases-loop-pair l = length l.rest
