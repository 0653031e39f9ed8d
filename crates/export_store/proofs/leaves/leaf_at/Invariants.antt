-- The leaves before `low` are below the key, and those behind `high` are above it.
use Rattle.std.proofs.Common.{◌+◌, ◌-◌, ◌<◌, ◌≤◌, length, take, drop}
use Rattle.export_store.specs.Levels.{leaves_entries, Around}
use Rattle.export_store.proofs.leaves.leaf_at.Given as goal

abbrev pub invariant-loop-low : goal.invariant-loop-low
invariant-loop-low g l = record {
  order : l.low ≤ l.high;
  bound : l.high < length l.leaves;
  around : Around l.key (leaves_entries (take l.low l.leaves)) (leaves_entries (drop (l.high + 1) l.leaves));
}

abbrev pub decreases-loop-low : goal.decreases-loop-low
decreases-loop-low g l = l.high - l.low
