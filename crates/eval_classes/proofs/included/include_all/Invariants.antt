-- What is left decides.
use Rattle.std.proofs.Common.{◌≡◌, length}
use Rattle.eval_classes.specs.Included.{include_from}
use Rattle.eval_classes.proofs.included.include_all.Given as goal

abbrev pub invariant-loop-name : goal.invariant-loop-name
invariant-loop-name g l =
    include_from (g.M.Meaning.within l.forms.left) l.including l.names l.at l.here l.fn.world
    ≡ include_from (g.M.Meaning.within l.forms.left) l.including l.rest l.at l.here l.world

abbrev pub decreases-loop-name : goal.decreases-loop-name
decreases-loop-name g l = length l.rest
