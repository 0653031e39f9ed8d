-- What is left decides.
use Rattle.std.proofs.Common.{◌≡◌, length}
use Rattle.eval_forms.specs.Conditions.{elsifs_from}
use Rattle.eval_forms.proofs.conditions.elsifs.Given as goal

abbrev pub invariant-loop-elsif : goal.invariant-loop-elsif
invariant-loop-elsif g l = elsifs_from (g.M.Meaning.within l.forms.left) l.elsifs l.last l.line l.here l.fn.world
    ≡ elsifs_from (g.M.Meaning.within l.forms.left) l.rest l.last l.line l.here l.world

abbrev pub decreases-loop-elsif : goal.decreases-loop-elsif
decreases-loop-elsif g l = length l.rest
