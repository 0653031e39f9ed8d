-- What is left, behind the value that was reached, decides.
use Rattle.std.proofs.Common.{◌≡◌, length}
use Rattle.pp_values.specs.Views.{view}
use Rattle.class_eval.specs.Postfixes.{postfixed_rule, postfixes_from}
use Rattle.class_eval.proofs.postfixes.over_known.Given as goal

abbrev pub invariant-loop-next : goal.invariant-loop-next
invariant-loop-next g l = postfixed_rule (g.M.Meaning.within l.forms.left) l.first l.postfixes l.line l.here l.world
    ≡ postfixes_from (g.M.Meaning.within l.forms.left) (view l.value) l.rest l.line l.here l.world

abbrev pub decreases-loop-next : goal.decreases-loop-next
decreases-loop-next g l = length l.rest
