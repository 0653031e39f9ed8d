use Rattle.std.proofs.Common.{◌≡◌, take}
use Rattle.rel_graph.proofs.ways.widened.Given as goal

abbrev pub invariant-loop-pair : goal.invariant-loop-pair
invariant-loop-pair l = l.wide.items ≡ take l.pair-index l.pairs
