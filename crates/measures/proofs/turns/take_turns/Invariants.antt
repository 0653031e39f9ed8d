use Rattle.hist_lock.specs.Held.{IsShare}
use Rattle.measures.proofs.turns.take_turns.Given as goal

abbrev pub invariant-loop : goal.invariant-loop
invariant-loop g l = IsShare l.lock 1 l.pass
