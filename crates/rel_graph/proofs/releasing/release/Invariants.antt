-- The counts of the targets before the index went down.
use Rattle.std.proofs.Common.{drop}
use Rattle.rel_graph.proofs.ReleaseLemmas.{Releasing}
use Rattle.rel_graph.proofs.releasing.release.Given as goal

abbrev pub invariant-loop-target : goal.invariant-loop-target
invariant-loop-target l = Releasing l.targets (drop l.target-index l.targets) l.fn.waits l.waits l.fn.free.items
    l.free.items
