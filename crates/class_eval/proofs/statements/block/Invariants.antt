-- What is left decides.
use Rattle.std.proofs.Common.{◌≡◌, length}
use Rattle.class_eval.specs.Statements.{block_rule, statements_from}
use Rattle.class_eval.proofs.statements.block.Given as goal

abbrev pub invariant-loop-next : goal.invariant-loop-next
invariant-loop-next g l = block_rule (g.M.Meaning.within l.forms.left) l.block l.here l.fn.world
    ≡ statements_from (g.M.Meaning.within l.forms.left) l.last l.rest l.here l.world

abbrev pub decreases-loop-next : goal.decreases-loop-next
decreases-loop-next g l = length l.rest
