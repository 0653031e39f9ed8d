-- What is left decides.
use Rattle.std.proofs.Common.{◌≡◌, [], length}
use Rattle.eval_forms.specs.Literals.{pairs_from}
use Rattle.eval_forms.proofs.literals.hash.Given as goal

abbrev pub invariant-loop-pair : goal.invariant-loop-pair
invariant-loop-pair g l = pairs_from (g.M.Meaning.within l.forms.left) [] l.pairs l.line l.here l.fn.world
    ≡ pairs_from (g.M.Meaning.within l.forms.left) l.done l.rest l.line l.here l.world

abbrev pub decreases-loop-pair : goal.decreases-loop-pair
decreases-loop-pair g l = length l.rest
