use Rattle.std.proofs.Common.{sym, ap, subst, ◌∙◌, ◌≡◌, ◌≤◌, ◌+◌, IsTrue, List, length, arith, All}
use Rattle.std.specs.Arc.{arc_value}
use Rattle.std.specs.declared.sync.Arc.{Arc}
use Rattle.std.specs.declared.alloc.Global.{Global}
use Rattle.std.specs.FinMap.{is_sorted}
use Rattle.export_store.specs.Rows.{others}
use Rattle.std.proofs.lemmas.List.Elements.{All-get_or}
use Rattle.pp_values.specs.Rising.{text_cmp}
use Rattle.export_store.specs.Levels.{IsLeaf, IsRun, leaves_entries, run_entries}
use Rattle.export_store.specs.declared.leaf.Leaf.{Leaf}
use Rattle.export_store.specs.declared.run.Run.{Run}
use Rattle.export_store.proofs.BlockLemmas.{block_sorted, at_place}
use Rattle.export_store.proofs.runs.leaves_without.Goals as goal

pub without_leaves-requires-clause-leaves : goal.without_leaves-requires-clause-leaves
without_leaves-requires-clause-leaves g c =
    let run = c.index-runs-index.result in
    let fits : IsRun run = subst IsRun (sym c.index-runs-index.is) (All-get_or IsRun c.args.runs.now c.args.index run c.if-index-runs.true c.requires.runs) in
    subst (All IsLeaf) (sym (c.deref.ensures.value ∙ ap (λ (r : Run _). r.leaves.items) c.deref-run.ensures)) fits.1

pub without_leaves-requires-clause-sorted : goal.without_leaves-requires-clause-sorted
without_leaves-requires-clause-sorted g c =
    subst (λ leaves. IsTrue (is_sorted text_cmp (leaves_entries leaves)))
    (sym (c.deref.ensures.value ∙ ap (λ (r : Run _). r.leaves.items) c.deref-run.ensures))
    (block_sorted run_entries c.args.runs.now c.args.index c.index-runs-index.result c.if-index-runs.true c.index-runs-index.is c.requires.sorted)

pub returns-then-index-runs : goal.returns-then-index-runs
returns-then-index-runs g c =
    let k = c.args.key.now in
    let run = c.index-runs-index.result in
    let inside : c.deref.result.now ≡ (arc_value run).leaves.items = c.deref.ensures.value ∙ ap (λ (r : Run _). r.leaves.items) c.deref-run.ensures in
    let fits : IsRun run = subst IsRun (sym c.index-runs-index.is) (All-get_or IsRun c.args.runs.now c.args.index run c.if-index-runs.true c.requires.runs) in
    let small : length (arc_value run).leaves.items ≤ 64 = fits.0.1 in
    let same : length c.deref.result.now ≡ length (arc_value run).leaves.items = ap length inside in
    let most : length c.in_ok-leaves.leaves.items ≤ length c.deref.result.now + 1 = c.in_ok-leaves.ensures.count in
    record {
      entries = c.in_ok-leaves.ensures.entries ∙ ap (λ (ls : List (Arc (Leaf _) Global)). others k (leaves_entries ls)) inside
          ∙ sym (ap (others k) (at_place run_entries c.args.runs.now c.args.index run c.if-index-runs.true c.index-runs-index.is));
      leaves = c.in_ok-leaves.ensures.leaves;
      few = omega (arith, most, same, small);
    }
