use Rattle.rel_graph.proofs.ArrowLemmas.{no_arrows, resource_at}
use Rattle.rel_graph.proofs.arrows.put_resources.Goals as goal

pub loop-at-init : goal.loop-at-init
loop-at-init c = rw c.requires no_arrows

pub loop-at-preserved : goal.loop-at-preserved
loop-at-preserved c = resource_at c.loop-at.arrows.items _ _ c.loop-at.at _ _ _ _ c.loop-at.invariant
    c.in_ok-push.ensures.items c.in_ok-push-2.ensures.items c.begin.ensures c.listing.ensures
    c.listing-in-loop-at.ensures c.end.ensures
