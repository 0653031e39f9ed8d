use Rattle.std.proofs.Common.{◌≡◌, ◌++◌, map, drop}
use Rattle.rel_graph.specs.Graphs.{containment_pair}
use Rattle.rel_graph.specs.CatalogPairs.{pairs_from, containment}
use Rattle.catalog_finish.proofs.containment.containers.Given as goal

abbrev pub invariant-loop-index : goal.invariant-loop-index
invariant-loop-index l =
    map containment_pair l.pairs.items ++ pairs_from l.index (drop l.index l.resources) ≡ containment l.resources
