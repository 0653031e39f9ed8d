-- The arrows of the edges before the index are put.
use Rattle.std.proofs.Common.{ℕ, List, [], take}
use Rattle.rel_graph.specs.Steps.{AreArrows}
use Rattle.rel_graph.proofs.arrows.put_edges.Given as goal

abbrev pub invariant-loop-edge : goal.invariant-loop-edge
invariant-loop-edge l = (containers : List (ℕ × ℕ)) (count : ℕ) →
    AreArrows containers [] count l.fn.arrows.items → AreArrows containers (take l.edge-index l.edges) count
    l.arrows.items
