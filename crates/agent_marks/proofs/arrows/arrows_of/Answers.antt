use Rattle.agent_marks.proofs.ArrowLemmas.{contained_at, related_at}
use Rattle.agent_marks.proofs.arrows.arrows_of.Goals as goal

pub loop-pair-preserved : goal.loop-pair-preserved
loop-pair-preserved c =
    contained_at c.args.containers.now c.loop-pair.arrows.items _ _ c.loop-pair.pair-index _ _ _ _ c.loop-pair-test.true c.loop-pair.invariant
    c.in_ok-push.ensures.items c.in_ok-push-2.ensures.items c.begin.ensures c.begin-in-loop-pair.ensures c.end.ensures c.end-in-loop-pair.ensures

pub loop-edge-preserved : goal.loop-edge-preserved
loop-edge-preserved c =
    related_at c.args.containers.now c.args.edges.now c.loop-edge.arrows.items _ c.loop-edge.edge-index _ _ c.loop-edge-test.true c.loop-edge.invariant
    c.in_ok-push-3.ensures.items c.end-in-loop-edge.ensures c.begin-in-loop-edge.ensures
