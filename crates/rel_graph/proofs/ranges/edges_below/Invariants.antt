use Rattle.std.proofs.Common.{ℕ, ◌<◌, map, get_or}
use Rattle.rel_graph.specs.Graphs.{edge_pair}
use Rattle.rel_graph.proofs.ranges.edges_below.Given as goal

abbrev pub invariant-loop-edge : goal.invariant-loop-edge
invariant-loop-edge l = (k : ℕ) → k < l.edge-index →
    ((get_or (map edge_pair l.edges) k (0, 0)).0 < l.count) × ((get_or (map edge_pair l.edges) k (0, 0)).1 < l.count)
