-- What is there and what is left are all of them.
use Rattle.eval_classes.proofs.Upward.{Told}
use Rattle.eval_classes.proofs.above.sources_from.Given as goal

abbrev pub invariant-loop-turn : goal.invariant-loop-turn
invariant-loop-turn l = Told l.environment l._turn l.fn.first l.sources l.at
