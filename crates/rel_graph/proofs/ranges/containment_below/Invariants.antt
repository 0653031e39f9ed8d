use Rattle.std.proofs.Common.{ℕ, ◌<◌, map, get_or}
use Rattle.rel_graph.specs.Graphs.{containment_pair}
use Rattle.rel_graph.proofs.ranges.containment_below.Given as goal

abbrev pub invariant-loop-it : goal.invariant-loop-it
invariant-loop-it l = (k : ℕ) → k < l.it-index →
    ((get_or (map containment_pair l.containers) k (0, 0)).0 < l.count) ×
    ((get_or (map containment_pair l.containers) k (0, 0)).1 < l.count)
