use Rattle.rel_graph.proofs.ArrowLemmas.{member_at}
use Rattle.rel_graph.proofs.arrows.put_containers.Goals as goal

pub loop-pair-preserved : goal.loop-pair-preserved
loop-pair-preserved c = λ count start.
    member_at c.args.containers.now c.loop-pair.arrows.items _ _ count c.loop-pair.pair-index _ _ _ _
    c.loop-pair-test.true (c.loop-pair.invariant count start) c.in_ok-push.ensures.items c.in_ok-push-2.ensures.items
    c.begin.ensures c.begin-in-loop-pair.ensures c.end.ensures c.end-in-loop-pair.ensures
