-- What was gone, and the mark stands behind.
use Rattle.eval_classes.proofs.Behind.{IsBehind}
use Rattle.eval_classes.proofs.Ways.{Went}
use Rattle.eval_classes.proofs.parents.comes_to.Given as goal

abbrev pub invariant-loop-turn : goal.invariant-loop-turn
invariant-loop-turn l =
    Went l.environment l.name l.turn l.fn.first l.at × IsBehind l.environment l.name l.mark l.at
