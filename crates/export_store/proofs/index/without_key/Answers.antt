use Rattle.std.proofs.Common.{None, Some, refl}
use Rattle.export_store.proofs.IndexLemmas.{among_left, under_out, under_put}
use Rattle.export_store.proofs.index.without_key.Goals as goal

pub returns-then-is_empty : goal.returns-then-is_empty
returns-then-is_empty c =
    under_out c.args.index.now _ c.args.key.now c.args.node.now c.in_ok-left.left
    (among_left _ c.in-Some.nodes.now c.in_ok-left.left c.args.node.now c.in-Some.ensures c.in_ok-left.ensures)
    (c.is_empty.ensures c.if-is_empty.true) c.in_ok-new.ensures

pub returns : goal.returns
returns c =
    under_put c.args.index.now _ c.args.key.now c.args.node.now None None (Some c.in-Some.nodes.now) c.in_ok-left.left _ c.in-Some.ensures refl
    (among_left _ c.in-Some.nodes.now c.in_ok-left.left c.args.node.now refl c.in_ok-left.ensures) c.in_ok-left-2.ensures.ok c.in_ok-new-2.ensures
