-- What is left decides.
use Rattle.std.proofs.Common.{◌≡◌, [], length}
use Rattle.res_core.specs.AttributeViews.{set_in}
use Rattle.eval_classes.specs.Parameters.{bind_from}
use Rattle.eval_classes.proofs.parameters.bind_all.Given as goal

abbrev pub invariant-loop-param : goal.invariant-loop-param
invariant-loop-param g l =
    bind_from (g.M.Meaning.within l.forms.left) (set_in l.binding.given) [] l.params l.binding.of l.binding.at l.own
    l.fn.world
    ≡ bind_from (g.M.Meaning.within l.forms.left) (set_in l.binding.given) l.done l.rest l.binding.of l.binding.at l.own
    l.world

abbrev pub decreases-loop-param : goal.decreases-loop-param
decreases-loop-param g l = length l.rest
