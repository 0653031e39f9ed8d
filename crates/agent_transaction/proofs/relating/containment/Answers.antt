use Rattle.rel_graph.proofs.CatalogLemmas.{pairs_turn}
use Rattle.agent_transaction.proofs.relating.containment.Goals as goal

pub loop-index-preserved : goal.loop-index-preserved
loop-index-preserved c =
    pairs_turn c.args.resources.now c.loop-index.index c.index-resources-index.result _ _ _ _ c.loop-index-test.true
    c.index-resources-index.is c.as_slice.ensures c.in_ok-put_pairs.ensures c.loop-index.invariant
