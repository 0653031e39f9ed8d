use Rattle.rel_graph.specs.Before.{Direct}
use Rattle.rel_graph.specs.Cycles.{NoneBelow}
use Rattle.rel_graph.proofs.cycles.first_cycle.Given as goal

abbrev pub invariant-loop-start : goal.invariant-loop-start
invariant-loop-start l = NoneBelow (Direct l.containers l.edges) l.start
