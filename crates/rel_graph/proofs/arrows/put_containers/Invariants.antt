-- The arrows of the pairs before the index are put.
use Rattle.std.proofs.Common.{ℕ, [], take}
use Rattle.rel_graph.specs.Steps.{AreArrows}
use Rattle.rel_graph.proofs.arrows.put_containers.Given as goal

abbrev pub invariant-loop-pair : goal.invariant-loop-pair
invariant-loop-pair l = (count : ℕ) →
    AreArrows [] [] count l.fn.arrows.items → AreArrows (take l.pair-index l.containers) [] count l.arrows.items
