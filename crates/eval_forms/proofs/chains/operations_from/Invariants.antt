-- What is left decides.
use Rattle.std.proofs.Common.{◌≡◌, length}
use Rattle.eval_forms.specs.Operators.{operations_from}
use Rattle.eval_forms.proofs.chains.operations_from.Given as goal

abbrev pub invariant-loop-operation : goal.invariant-loop-operation
invariant-loop-operation g l =
    operations_from (g.M.Meaning.within l.forms.left) l.fn.first l.operations l.line l.here l.fn.world
    ≡ operations_from (g.M.Meaning.within l.forms.left) l.done l.rest l.line l.here l.world

abbrev pub decreases-loop-operation : goal.decreases-loop-operation
decreases-loop-operation g l = length l.rest
