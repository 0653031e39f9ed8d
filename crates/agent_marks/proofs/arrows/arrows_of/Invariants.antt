-- The arrows of the pairs before the index.
use Rattle.std.proofs.Common.{[], take}
use Rattle.agent_marks.specs.Nodes.{AreArrows}
use Rattle.agent_marks.proofs.arrows.arrows_of.Given as goal

abbrev pub invariant-loop-pair : goal.invariant-loop-pair
invariant-loop-pair l = AreArrows 0 (take l.pair-index l.containers) [] l.arrows.items

abbrev pub invariant-loop-edge : goal.invariant-loop-edge
invariant-loop-edge l = AreArrows 0 l.containers (take l.edge-index l.edges) l.arrows.items
