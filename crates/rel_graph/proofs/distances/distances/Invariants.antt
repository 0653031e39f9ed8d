use Rattle.std.proofs.Common.{◌≡◌, ℕ, ◌+◌, ◌<◌, ◌≤◌, Contains, length, count_by, not}
use Rattle.rel_graph.specs.Before.{Direct}
use Rattle.rel_graph.specs.Visits.{AreVisited}
use Rattle.rel_graph.proofs.Levels.{Levels}
use Rattle.rel_graph.proofs.distances.distances.Given as goal

abbrev pub invariant-loop-inner : goal.invariant-loop-inner
invariant-loop-inner l = record {
  levels : Levels (Direct l.containers l.edges) l.numbers.items l.inner.items l.front.items l.goal l.level;
  visited : AreVisited l.ways l.outer.items l.inner.items;
  long : length l.numbers.items ≡ l.count;
  outer_long : length l.outer.items ≡ l.count;
  inner_long : length l.inner.items ≡ l.count;
  within : (v : ℕ) → Contains l.front.items v → v < l.count;
  room : l.level + count_by not l.inner.items ≤ l.count;
}

abbrev pub decreases-loop-inner : goal.decreases-loop-inner
decreases-loop-inner l = count_by not l.inner.items
