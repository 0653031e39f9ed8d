use Rattle.rel_graph.proofs.ArrowLemmas.{edge_at}
use Rattle.rel_graph.proofs.arrows.put_edges.Goals as goal

pub loop-edge-preserved : goal.loop-edge-preserved
loop-edge-preserved c = λ containers count start.
    edge_at containers c.args.edges.now c.loop-edge.arrows.items _ count c.loop-edge.edge-index _ _
    c.loop-edge-test.true
    (c.loop-edge.invariant containers count start) c.in_ok-push.ensures.items c.end.ensures c.begin.ensures
