use Rattle.std.proofs.Common.{sym, ap, subst, ◌∙◌, ◌++◌, ◌+◌, ◌-◌, ◌/◌, ◌<◌, ◌≤◌, IsTrue, length, drop, arith}
use Rattle.std.proofs.lemmas.List.Elements.{All-get_or}
use Rattle.std.specs.FinMap.{is_sorted}
use Rattle.pp_values.specs.Rising.{text_cmp}
use Rattle.export_store.specs.Rows.{entries_of}
use Rattle.export_store.specs.Levels.{is_above, leaf_entries, leaves_entries, IsLeaf}
use Rattle.export_store.specs.declared.leaf.Leaf.{Leaf}
use Rattle.export_store.proofs.BlockLemmas.{block_sorted, block_sorted_on, passed}
use Rattle.export_store.proofs.RowLemmas.{leaf_filled}
use Rattle.export_store.proofs.leaves.leaf_at.Goals as goal

pub lie_below-requires-clause-sorted : goal.lie_below-requires-clause-sorted
lie_below-requires-clause-sorted g c =
    let middle = c.loop-low.low + (c.loop-low.high - c.loop-low.low) / 2 in
    let x = c.index-leaves-middle.result in
    let inside : middle < length c.args.leaves.now = omega (arith, c.loop-low-test.true, c.loop-low.invariant.bound) in
    subst (λ members. IsTrue (is_sorted text_cmp (entries_of members)))
    (sym (c.deref.ensures.value ∙ ap (λ (x : Leaf _). x.rows.items) c.deref-leaf.ensures))
    (block_sorted leaf_entries c.args.leaves.now middle x inside c.index-leaves-middle.is c.requires.sorted)

pub loop-low-preserved-then-lie_below : goal.loop-low-preserved-then-lie_below
loop-low-preserved-then-lie_below g c =
    let middle = c.loop-low.low + (c.loop-low.high - c.loop-low.low) / 2 in
    let x = c.index-leaves-middle.result in
    let inside : middle < length c.args.leaves.now = omega (arith, c.loop-low-test.true, c.loop-low.invariant.bound) in
    let fits : IsLeaf x = subst IsLeaf (sym c.index-leaves-middle.is) (All-get_or IsLeaf c.args.leaves.now middle x inside c.requires.leaves) in
    let some : 1 ≤ length (leaf_entries x) = leaf_filled x fits in
    record {
      order = omega (arith, c.loop-low-test.true);
      bound = c.loop-low.invariant.bound;
      around = record {
        lower = passed leaf_entries c.args.key.now c.args.leaves.now middle x inside c.index-leaves-middle.is some c.requires.sorted
            (subst (λ members. IsTrue (is_above c.args.key.now (entries_of members)))
            (c.deref.ensures.value ∙ ap (λ (x : Leaf _). x.rows.items) c.deref-leaf.ensures)
            (c.lie_below.ensures.yes c.if-lie_below.true));
        higher = c.loop-low.invariant.around.higher;
      };
    }

pub loop-low-preserved : goal.loop-low-preserved
loop-low-preserved g c =
    let middle = c.loop-low.low + (c.loop-low.high - c.loop-low.low) / 2 in
    let x = c.index-leaves-middle.result in
    let inside : middle < length c.args.leaves.now = omega (arith, c.loop-low-test.true, c.loop-low.invariant.bound) in
    record {
      order = omega arith;
      bound = inside;
      around = record {
        lower = c.loop-low.invariant.around.lower;
        higher = c.lie_below.ensures.no c.if-lie_below.false _
            (subst (λ members. IsTrue (is_sorted text_cmp (entries_of members ++ leaves_entries (drop (middle + 1) c.args.leaves.now))))
            (sym (c.deref.ensures.value ∙ ap (λ (x : Leaf _). x.rows.items) c.deref-leaf.ensures))
            (block_sorted_on leaf_entries c.args.leaves.now middle x inside c.index-leaves-middle.is c.requires.sorted));
      };
    }
