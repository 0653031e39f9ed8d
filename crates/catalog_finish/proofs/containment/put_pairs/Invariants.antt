use Rattle.std.proofs.Common.{◌≡◌, ◌++◌, map, drop}
use Rattle.rel_graph.specs.Graphs.{containment_pair}
use Rattle.catalog_finish.proofs.containment.put_pairs.Given as goal

abbrev pub invariant-loop-container : goal.invariant-loop-container
invariant-loop-container l =
    map containment_pair l.pairs.items ++ map (λ c. (c, l.member)) (drop l.container-index l.containers)
    ≡ map containment_pair l.initial.pairs.items ++ map (λ c. (c, l.member)) l.containers
