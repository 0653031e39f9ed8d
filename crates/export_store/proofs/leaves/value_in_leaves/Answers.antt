use Rattle.std.proofs.Common.{sym, ap, subst, ◌∙◌, IsTrue, List}
use Rattle.std.specs.declared.sync.Arc.{Arc}
use Rattle.std.specs.declared.alloc.Global.{Global}
use Rattle.std.specs.FinMap.{find, is_sorted}
use Rattle.pp_values.specs.Rising.{text_cmp}
use Rattle.export_store.specs.Rows.{entries_of}
use Rattle.export_store.specs.Levels.{leaf_entries}
use Rattle.export_store.specs.declared.row.Row.{Row}
use Rattle.export_store.specs.declared.leaf.Leaf.{Leaf}
use Rattle.export_store.proofs.BlockLemmas.{block_sorted, find_within, at_place, past_end}
use Rattle.export_store.proofs.leaves.value_in_leaves.Goals as goal

pub value_of-requires : goal.value_of-requires
value_of-requires g c =
    subst (λ rows. IsTrue (is_sorted text_cmp (entries_of rows)))
    (sym (c.deref.ensures.value ∙ ap (λ (leaf : Leaf _). leaf.rows.items) c.deref-leaf.ensures))
    (block_sorted leaf_entries c.args.leaves.now c.leaf_at-index.result c.index-leaves-index.result c.if-index-leaves.true c.index-leaves-index.is c.requires.sorted)

pub returns-then-index-leaves : goal.returns-then-index-leaves
returns-then-index-leaves g c =
    c.value_of.ensures
    ∙ ap (λ (rows : List (Arc (Row _) Global)). find text_cmp c.args.key.now (entries_of rows)) (c.deref.ensures.value ∙ ap (λ (leaf : Leaf _). leaf.rows.items) c.deref-leaf.ensures)
    ∙ sym (find_within leaf_entries c.args.key.now c.args.leaves.now c.leaf_at-index.result c.leaf_at-index.ensures.around
    ∙ ap (find text_cmp c.args.key.now) (at_place leaf_entries c.args.leaves.now c.leaf_at-index.result c.index-leaves-index.result c.if-index-leaves.true c.index-leaves-index.is))

pub returns : goal.returns
returns g c =
    sym (find_within leaf_entries c.args.key.now c.args.leaves.now c.leaf_at-index.result c.leaf_at-index.ensures.around
    ∙ ap (find text_cmp c.args.key.now) (past_end leaf_entries c.args.leaves.now c.leaf_at-index.result c.if-index-leaves.false))
