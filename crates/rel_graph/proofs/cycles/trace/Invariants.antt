use Rattle.std.proofs.Common.{◌≡◌, ℕ, ◌<◌, ◌≤◌, Some, length}
use Rattle.rel_graph.specs.Before.{Direct}
use Rattle.rel_graph.specs.Distances.{distance}
use Rattle.rel_graph.specs.Marks.{Marked}
use Rattle.rel_graph.specs.Visits.{AreVisited}
use Rattle.rel_graph.proofs.Best.{Tracing}
use Rattle.rel_graph.proofs.cycles.trace.Given as goal

abbrev pub invariant-loop-left : goal.invariant-loop-left
invariant-loop-left l = record {
  at_below : l.at < l.count;
  tracing : Tracing (Direct l.containers l.edges) l.goal l.numbers l.between l.at l.left l.cycle.items;
  visited : AreVisited l.ways l.outer.items l.inner.items;
  outer_long : length l.outer.items ≡ l.count;
  inner_long : length l.inner.items ≡ l.count;
  farther : (x k : ℕ) → Marked l.inner.items x → distance l.numbers x ≡ Some k → l.left ≤ k;
}

abbrev pub decreases-loop-left : goal.decreases-loop-left
decreases-loop-left l = l.left
