use Rattle.std.proofs.Common.{sym, ap, subst, ◌∙◌, ◌≡◌, ◌≤◌, ◌+◌, IsTrue, List, length, arith}
use Rattle.std.specs.Arc.{arc_value}
use Rattle.std.specs.declared.sync.Arc.{Arc}
use Rattle.std.specs.declared.alloc.Global.{Global}
use Rattle.std.specs.FinMap.{put, is_sorted}
use Rattle.std.proofs.lemmas.List.{length-map}
use Rattle.std.proofs.lemmas.List.Elements.{All-get_or}
use Rattle.pp_values.specs.Rising.{text_cmp}
use Rattle.export_store.specs.Rows.{entry_of, entries_of}
use Rattle.export_store.specs.Levels.{IsLeaf, leaf_entries}
use Rattle.export_store.specs.declared.row.Row.{Row}
use Rattle.export_store.specs.declared.leaf.Leaf.{Leaf}
use Rattle.export_store.proofs.BlockLemmas.{block_sorted, at_place}
use Rattle.export_store.proofs.RowLemmas.{rows_count}
use Rattle.export_store.proofs.leaves.rows_with.Goals as goal

pub with_row-requires : goal.with_row-requires
with_row-requires g c =
    subst (λ rows. IsTrue (is_sorted text_cmp (entries_of rows)))
    (sym (c.deref.ensures.value ∙ ap (λ (leaf : Leaf _). leaf.rows.items) c.deref-leaf.ensures))
    (block_sorted leaf_entries c.args.leaves.now c.args.index c.index-leaves-index.result c.if-index-leaves.true c.index-leaves-index.is c.requires.sorted)

pub returns-then-index-leaves : goal.returns-then-index-leaves
returns-then-index-leaves g c =
    let k = c.args.new.key in
    let v = arc_value c.args.new.value in
    let leaf = c.index-leaves-index.result in
    let is : entries_of c.in_ok-rows.rows.items ≡ put text_cmp k v (leaf_entries leaf) =
    c.in_ok-rows.ensures ∙ ap (λ (rows : List (Arc (Row _) Global)). put text_cmp k v (entries_of rows)) (c.deref.ensures.value ∙ ap (λ (l : Leaf _). l.rows.items) c.deref-leaf.ensures) in
    let count = rows_count k v (leaf_entries leaf) c.in_ok-rows.rows.items is in
    let least : 1 ≤ length c.in_ok-rows.rows.items = count.0 in
    let most : length c.in_ok-rows.rows.items ≤ length (leaf_entries leaf) + 1 = count.1 in
    let same : length (leaf_entries leaf) ≡ length (arc_value leaf).rows.items = length-map (arc_value leaf).rows.items entry_of in
    let fits : IsLeaf leaf = subst IsLeaf (sym c.index-leaves-index.is) (All-get_or IsLeaf c.args.leaves.now c.args.index leaf c.if-index-leaves.true c.requires.leaves) in
    let small : length (arc_value leaf).rows.items ≤ 64 = fits.1 in
    record {
      entries = is ∙ sym (ap (put text_cmp k v) (at_place leaf_entries c.args.leaves.now c.args.index leaf c.if-index-leaves.true c.index-leaves-index.is));
      some = least;
      few = omega (arith, most, same, small);
    }
