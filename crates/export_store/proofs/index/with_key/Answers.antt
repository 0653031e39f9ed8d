use Rattle.std.proofs.Common.{Some, ap}
use Rattle.export_store.proofs.IndexLemmas.{under_put}
use Rattle.export_store.proofs.index.with_key.Goals as goal

pub returns : goal.returns
returns c =
    under_put c.args.index.now _ c.args.key.now c.args.node.now _ _ _ _ _ c.get.ensures (ap Some c.in_ok-set.ensures.cases) c.in_ok-nodes.ensures
    c.in_ok-nodes-2.ensures.ok c.in_ok-new.ensures
