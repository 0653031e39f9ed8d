use Rattle.export_store.proofs.IndexLemmas.{more_keys}
use Rattle.export_store.proofs.index.index_with.Goals as goal

pub loop-key-preserved : goal.loop-key-preserved
loop-key-preserved c =
    more_keys c.args.keys.now c.loop-key.key-index c.key-item.result c.args.node.now _ _ _ _ c.loop-key-test.true c.key-item.is c.loop-key.invariant
    c.in_ok-new-2.ensures
