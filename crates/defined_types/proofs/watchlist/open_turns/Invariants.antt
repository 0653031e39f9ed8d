-- The turns that are still opened are those of all.
use Rattle.std.proofs.Common.{◌≡◌, ◌-◌, length}
use Rattle.defined_types.specs.Watched.{opened}
use Rattle.defined_types.proofs.watchlist.open_turns.Given as goal

abbrev pub invariant-loop-turns : goal.invariant-loop-turns
invariant-loop-turns l = opened l.fn.turns.items l.count ≡ opened l.turns.items l.count

abbrev pub decreases-loop-turns : goal.decreases-loop-turns
decreases-loop-turns l = l.count - length l.turns.items
