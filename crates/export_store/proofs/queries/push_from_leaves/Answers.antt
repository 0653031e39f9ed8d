use Rattle.std.proofs.Common.{◌∙◌, ◌++◌, ap, option_copied}
use Rattle.export_store.specs.ExportQueries.{found_in}
use Rattle.export_store.specs.Rows.{entries_of}
use Rattle.export_store.specs.Levels.{leaf_entries}
use Rattle.export_store.specs.declared.leaf.Leaf.{Leaf}
use Rattle.export_store.proofs.QueryLemmas.{found-more}
use Rattle.export_store.proofs.queries.push_from_leaves.Goals as goal

pub loop-leaf-preserved : goal.loop-leaf-preserved
loop-leaf-preserved c =
    found-more leaf_entries c.args.kind.now (option_copied c.args.tag) c.args.but_node.now c.args.leaves.now c.loop-leaf.leaf-index c.leaf-item.result
    c.loop-leaf.places.items _ _ c.loop-leaf-test.true c.leaf-item.is
    (c.in_ok-push_from_rows.ensures
    ∙ ap (λ members. c.loop-leaf.places.items ++ found_in c.args.kind.now (option_copied c.args.tag) c.args.but_node.now (entries_of members))
    (c.deref.ensures.value ∙ ap (λ (x : Leaf _). x.rows.items) c.deref-leaf.ensures))
    c.loop-leaf.invariant
