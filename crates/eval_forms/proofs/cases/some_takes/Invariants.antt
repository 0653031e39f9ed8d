-- What is left decides.
use Rattle.std.proofs.Common.{◌≡◌, length}
use Rattle.eval_forms.specs.Conditions.{any_takes}
use Rattle.eval_forms.proofs.cases.some_takes.Given as goal

abbrev pub invariant-loop-value : goal.invariant-loop-value
invariant-loop-value g l = any_takes (g.M.Meaning.within l.forms.left) l.control l.values l.here l.fn.world
    ≡ any_takes (g.M.Meaning.within l.forms.left) l.control l.rest l.here l.world

abbrev pub decreases-loop-value : goal.decreases-loop-value
decreases-loop-value g l = length l.rest
