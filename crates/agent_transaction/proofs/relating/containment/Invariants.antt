use Rattle.std.proofs.Common.{◌≡◌, ◌++◌, drop}
use Rattle.rel_graph.specs.CatalogPairs.{pairs_from, containment}
use Rattle.agent_transaction.proofs.relating.containment.Given as goal

abbrev pub invariant-loop-index : goal.invariant-loop-index
invariant-loop-index l = l.pairs.items ++ pairs_from l.index (drop l.index l.resources) ≡ containment l.resources
