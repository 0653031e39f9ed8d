use Rattle.std.proofs.Common.{◌≡◌, map, take}
use Rattle.rel_graph.specs.Graphs.{edge_pair}
use Rattle.agent_transaction.proofs.relating.relations.Given as goal

abbrev pub invariant-loop-edge : goal.invariant-loop-edge
invariant-loop-edge l = l.pairs.items ≡ map edge_pair (take l.edge-index l.edges)
