use Rattle.std.proofs.Common.{sym, subst}
use Rattle.rel_graph.specs.Chains.{Paired}
use Rattle.rel_graph.specs.Cycles.{HasNoCycle}
use Rattle.rel_graph.proofs.graph.Graph.order.Goals as goal

pub sort-requires-clause-contains : goal.sort-requires-clause-contains
sort-requires-clause-contains c =
    subst (λ pairs. HasNoCycle (Paired pairs)) (sym c.as_slice.ensures.value) c.self.invariant.told.contains
