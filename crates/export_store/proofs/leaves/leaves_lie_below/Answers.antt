use Rattle.std.proofs.Common.{sym, ap, subst, ◌∙◌, ◌++◌, ◌-◌, ◌≡◌, ◌≤◌, IsTrue, length, arith}
use Rattle.std.proofs.lemmas.List.{length-map}
use Rattle.std.proofs.lemmas.List.Elements.{All-get_or}
use Rattle.std.specs.Arc.{arc_value}
use Rattle.std.specs.FinMap.{is_sorted}
use Rattle.pp_values.specs.Rising.{text_cmp}
use Rattle.export_store.specs.Rows.{entry_of, entries_of}
use Rattle.export_store.specs.Levels.{leaf_entries, is_above, IsLeaf}
use Rattle.export_store.specs.declared.leaf.Leaf.{Leaf}
use Rattle.export_store.proofs.BlockLemmas.{block_sorted, above_all, sorted_last}
use Rattle.export_store.proofs.leaves.leaves_lie_below.Goals as goal

pub lie_below-requires-clause-sorted : goal.lie_below-requires-clause-sorted
lie_below-requires-clause-sorted g c =
    subst (λ rows. IsTrue (is_sorted text_cmp (entries_of rows)))
    (sym (c.deref.ensures.value ∙ ap (λ (leaf : Leaf _). leaf.rows.items) c.deref-last.ensures))
    (block_sorted leaf_entries c.args.leaves.now (length c.args.leaves.now - 1) c.index-leaves-leaves.result (omega (arith, c.requires.some)) c.index-leaves-leaves.is c.requires.sorted)

pub returns-clause-yes : goal.returns-clause-yes
returns-clause-yes g c = λ e.
    let leaf = c.index-leaves-leaves.result in
    let fits : IsLeaf leaf = subst IsLeaf (sym c.index-leaves-leaves.is) (All-get_or IsLeaf c.args.leaves.now (length c.args.leaves.now - 1) leaf (omega (arith, c.requires.some)) c.requires.leaves) in
    let some : 1 ≤ length (arc_value leaf).rows.items = fits.0 in
    let same : length (leaf_entries leaf) ≡ length (arc_value leaf).rows.items = length-map (arc_value leaf).rows.items entry_of in
    above_all leaf_entries c.args.key.now c.args.leaves.now (length c.args.leaves.now - 1) leaf (omega (arith, c.requires.some)) c.index-leaves-leaves.is
    (omega (arith, some, same)) c.requires.sorted
    (subst (λ rows. IsTrue (is_above c.args.key.now (entries_of rows)))
    (c.deref.ensures.value ∙ ap (λ (leaf : Leaf _). leaf.rows.items) c.deref-last.ensures)
    (c.lie_below.ensures.yes e))

pub returns-clause-no : goal.returns-clause-no
returns-clause-no g c = λ e more order.
    c.lie_below.ensures.no e more
    (subst (λ rows. IsTrue (is_sorted text_cmp (entries_of rows ++ more)))
    (sym (c.deref.ensures.value ∙ ap (λ (leaf : Leaf _). leaf.rows.items) c.deref-last.ensures))
    (sorted_last leaf_entries c.args.leaves.now (length c.args.leaves.now - 1) c.index-leaves-leaves.result more (omega (arith, c.requires.some)) c.index-leaves-leaves.is order))
