-- What is left decides.
use Rattle.std.proofs.Common.{◌≡◌, length}
use Rattle.class_eval.specs.Postfixes.{postfixes_from}
use Rattle.class_eval.proofs.postfixes.followed.Given as goal

abbrev pub invariant-loop-next : goal.invariant-loop-next
invariant-loop-next g l = postfixes_from (g.M.Meaning.within l.forms.left) l.fn.value l.postfixes l.line l.here l.fn.world
    ≡ postfixes_from (g.M.Meaning.within l.forms.left) l.done l.rest l.line l.here l.world

abbrev pub decreases-loop-next : goal.decreases-loop-next
decreases-loop-next g l = length l.rest
