-- What is left of the chain decides.
use Rattle.eval_classes.specs.Definitions.{class_name}
use Rattle.eval_classes.specs.Stacks.{stack_of, class_seen}
use Rattle.eval_classes.proofs.Links.{Linked}
use Rattle.eval_classes.proofs.chains.chain_of.Given as goal

abbrev pub invariant-loop-turn : goal.invariant-loop-turn
invariant-loop-turn l =
    Linked l.environment l.book l._turn (class_name l.class) l.class (stack_of class_seen l.before.items) l.name l.last
