-- What is left decides.
use Rattle.std.proofs.Common.{◌≡◌, length}
use Rattle.pp_values.specs.Views.{pair_views}
use Rattle.eval_calls.specs.Templates.{params_from}
use Rattle.eval_calls.proofs.templates.bind_params.Given as goal

abbrev pub invariant-loop-param : goal.invariant-loop-param
invariant-loop-param g l =
    params_from (g.M.Meaning.within l.forms.left) l.params (pair_views l.given) l.at l.own l.fn.world
    ≡ params_from (g.M.Meaning.within l.forms.left) l.rest (pair_views l.given) l.at l.own l.world

abbrev pub decreases-loop-param : goal.decreases-loop-param
decreases-loop-param g l = length l.rest
