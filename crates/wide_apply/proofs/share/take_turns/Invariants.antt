-- The turns that were yielded are taken.
use Rattle.wide_apply.specs.Apart.{TakesAll}
use Rattle.wide_apply.proofs.share.take_turns.Given as goal

abbrev pub invariant-loop-turn : goal.invariant-loop-turn
invariant-loop-turn g l = TakesAll g.P.Machine.state l.yielded l.taken.items
