use Rattle.std.proofs.Common.{◌≡◌, map, take}
use Rattle.rel_graph.specs.Graphs.{containment_pair}
use Rattle.agent_transaction.proofs.relating.containers.Given as goal

abbrev pub invariant-loop-pair : goal.invariant-loop-pair
invariant-loop-pair l = map containment_pair l.items.items ≡ take l.pair-index l.pairs
