-- What was dealt out, and what is to be dealt out next, are the turns that were yielded.
use Rattle.std.proofs.Common.{◌≡◌, ◌++◌}
use Rattle.wide_apply.specs.Shares.{dealt}
use Rattle.wide_apply.proofs.sharing.shares_of.Given as goal

abbrev pub invariant-loop-turn : goal.invariant-loop-turn
invariant-loop-turn g l = record {
  all : l.yielded ++ l.turn-iterator.rest.items ≡ l.fn.turns.items;
  seen : dealt l.shares.items ++ l.own.items ≡ l.yielded;
}
