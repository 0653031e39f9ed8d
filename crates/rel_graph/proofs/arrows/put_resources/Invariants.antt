-- The arrows of the resources below the index.
use Rattle.std.proofs.Common.{[]}
use Rattle.rel_graph.specs.Steps.{AreArrows}
use Rattle.rel_graph.proofs.arrows.put_resources.Given as goal

abbrev pub invariant-loop-at : goal.invariant-loop-at
invariant-loop-at l = AreArrows [] [] l.at l.arrows.items
