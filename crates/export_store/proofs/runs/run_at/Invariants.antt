-- The runs before `low` are below the key, and those behind `high` are above it.
use Rattle.std.proofs.Common.{◌+◌, ◌-◌, ◌<◌, ◌≤◌, length, take, drop}
use Rattle.export_store.specs.Levels.{runs_entries, Around}
use Rattle.export_store.proofs.runs.run_at.Given as goal

abbrev pub invariant-loop-low : goal.invariant-loop-low
invariant-loop-low g l = record {
  order : l.low ≤ l.high;
  bound : l.high < length l.runs;
  around : Around l.key (runs_entries (take l.low l.runs)) (runs_entries (drop (l.high + 1) l.runs));
}

abbrev pub decreases-loop-low : goal.decreases-loop-low
decreases-loop-low g l = l.high - l.low
