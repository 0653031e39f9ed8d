-- What is left decides.
use Rattle.std.proofs.Common.{◌≡◌, length}
use Rattle.std.specs.Vec.Iter.{into_iter_items}
use Rattle.eval_calls.specs.Functions.{bind_from}
use Rattle.eval_calls.proofs.functions.bind.Given as goal
use Rattle.pp_values.specs.Views.{views}

abbrev pub invariant-loop-param : goal.invariant-loop-param
invariant-loop-param g l =
    bind_from (g.M.Meaning.within l.forms.left) l.fn.params l.fn.arguments l.at l.own l.fn.world
    ≡ bind_from (g.M.Meaning.within l.forms.left) l.params (views (into_iter_items l.left)) l.at l.own l.world

abbrev pub decreases-loop-param : goal.decreases-loop-param
decreases-loop-param g l = length l.params
