use Rattle.std.proofs.Common.{sym, ap, subst, ◌∙◌, IsTrue, List, All}
use Rattle.std.specs.declared.sync.Arc.{Arc}
use Rattle.std.specs.declared.alloc.Global.{Global}
use Rattle.std.specs.FinMap.{find, is_sorted}
use Rattle.pp_values.specs.Rising.{text_cmp}
use Rattle.export_store.specs.Levels.{leaves_entries, run_entries, IsLeaf, IsRun}
use Rattle.std.proofs.lemmas.List.Elements.{All-get_or}
use Rattle.export_store.specs.declared.leaf.Leaf.{Leaf}
use Rattle.export_store.specs.declared.run.Run.{Run}
use Rattle.export_store.proofs.BlockLemmas.{block_sorted, find_within, at_place, past_end}
use Rattle.export_store.proofs.runs.value_in_runs.Goals as goal

pub value_in_leaves-requires-clause-leaves : goal.value_in_leaves-requires-clause-leaves
value_in_leaves-requires-clause-leaves g c =
    let run = c.index-runs-index.result in
    let fits : IsRun run = subst IsRun (sym c.index-runs-index.is) (All-get_or IsRun c.args.runs.now c.run_at-index.result run c.if-index-runs.true c.requires.runs) in
    subst (All IsLeaf) (sym (c.deref.ensures.value ∙ ap (λ (r : Run _). r.leaves.items) c.deref-run.ensures)) fits.1

pub value_in_leaves-requires-clause-sorted : goal.value_in_leaves-requires-clause-sorted
value_in_leaves-requires-clause-sorted g c =
    subst (λ leaves. IsTrue (is_sorted text_cmp (leaves_entries leaves)))
    (sym (c.deref.ensures.value ∙ ap (λ (r : Run _). r.leaves.items) c.deref-run.ensures))
    (block_sorted run_entries c.args.runs.now c.run_at-index.result c.index-runs-index.result c.if-index-runs.true c.index-runs-index.is c.requires.sorted)

pub returns-then-index-runs : goal.returns-then-index-runs
returns-then-index-runs g c =
    c.value_in_leaves.ensures
    ∙ ap (λ (rows : List (Arc (Leaf _) Global)). find text_cmp c.args.key.now (leaves_entries rows)) (c.deref.ensures.value ∙ ap (λ (run : Run _). run.leaves.items) c.deref-run.ensures)
    ∙ sym (find_within run_entries c.args.key.now c.args.runs.now c.run_at-index.result c.run_at-index.ensures.around
    ∙ ap (find text_cmp c.args.key.now) (at_place run_entries c.args.runs.now c.run_at-index.result c.index-runs-index.result c.if-index-runs.true c.index-runs-index.is))

pub returns : goal.returns
returns g c =
    sym (find_within run_entries c.args.key.now c.args.runs.now c.run_at-index.result c.run_at-index.ensures.around
    ∙ ap (find text_cmp c.args.key.now) (past_end run_entries c.args.runs.now c.run_at-index.result c.if-index-runs.false))
