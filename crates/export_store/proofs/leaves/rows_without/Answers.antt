use Rattle.std.proofs.Common.{sym, ap, subst, ◌∙◌, ◌≡◌, ◌≤◌, List, length, arith}
use Rattle.std.specs.Arc.{arc_value}
use Rattle.std.specs.declared.sync.Arc.{Arc}
use Rattle.std.specs.declared.alloc.Global.{Global}
use Rattle.std.proofs.lemmas.List.{length-map}
use Rattle.std.proofs.lemmas.List.Elements.{All-get_or}
use Rattle.export_store.specs.Rows.{entry_of, entries_of, others}
use Rattle.export_store.specs.Levels.{IsLeaf, leaf_entries}
use Rattle.export_store.specs.declared.row.Row.{Row}
use Rattle.export_store.specs.declared.leaf.Leaf.{Leaf}
use Rattle.export_store.proofs.BlockLemmas.{at_place}
use Rattle.export_store.proofs.RowLemmas.{others_count}
use Rattle.export_store.proofs.leaves.rows_without.Goals as goal

pub returns-then-index-leaves : goal.returns-then-index-leaves
returns-then-index-leaves g c =
    let k = c.args.key.now in
    let leaf = c.index-leaves-index.result in
    let is : entries_of c.in_ok-rows.rows.items ≡ others k (leaf_entries leaf) =
    c.in_ok-rows.ensures ∙ ap (λ (rows : List (Arc (Row _) Global)). others k (entries_of rows)) (c.deref.ensures.value ∙ ap (λ (l : Leaf _). l.rows.items) c.deref-leaf.ensures) in
    let most : length c.in_ok-rows.rows.items ≤ length (leaf_entries leaf) = others_count k (leaf_entries leaf) c.in_ok-rows.rows.items is in
    let same : length (leaf_entries leaf) ≡ length (arc_value leaf).rows.items = length-map (arc_value leaf).rows.items entry_of in
    let fits : IsLeaf leaf = subst IsLeaf (sym c.index-leaves-index.is) (All-get_or IsLeaf c.args.leaves.now c.args.index leaf c.if-index-leaves.true c.requires) in
    let small : length (arc_value leaf).rows.items ≤ 64 = fits.1 in
    record {
      entries = is ∙ sym (ap (others k) (at_place leaf_entries c.args.leaves.now c.args.index leaf c.if-index-leaves.true c.index-leaves-index.is));
      few = omega (arith, most, same, small);
    }
