use Rattle.std.proofs.Common.{sym, ap, subst, ◌∙◌, ◌≡◌, All}
use Rattle.std.specs.Arc.{arc_value}
use Rattle.std.specs.FinMap.{remove}
use Rattle.export_store.specs.Rows.{others}
use Rattle.export_store.specs.declared.root.Root.{Root}
use Rattle.export_store.specs.Levels.{root_entries, runs_entries, IsRun}
use Rattle.export_store.proofs.MapLemmas.{true_of, test_of, sorted_without, map_without}
use Rattle.export_store.proofs.table.Table.without.Goals as goal

pub invariant_of-result : goal.invariant_of-result
invariant_of-result g c =
    let k = c.args.key.now in
    let runs : (arc_value c.in_ok-root.root).runs.items ≡ c.in_ok-runs.runs.items = ap (λ (t : Root _). t.runs.items) c.in_ok-root.ensures.ok in
    record {
      sorted = true_of _ (sorted_without (root_entries c.self.inside.root) _ k (test_of _ c.self.invariant.sorted)
          (ap runs_entries runs ∙ c.in_ok-runs.ensures.entries ∙ ap (λ rs. others k (runs_entries rs)) c.runs_of.ensures));
      runs = subst (All IsRun) (sym runs) c.in_ok-runs.ensures.runs;
    }

pub returns : goal.returns
returns g c =
    let k = c.args.key.now in
    let runs : (arc_value c.in_ok-root.root).runs.items ≡ c.in_ok-runs.runs.items = ap (λ (t : Root _). t.runs.items) c.in_ok-root.ensures.ok in
    map_without (root_entries c.self.inside.root) _ k (test_of _ c.self.invariant.sorted)
    (ap runs_entries runs ∙ c.in_ok-runs.ensures.entries ∙ ap (λ rs. others k (runs_entries rs)) c.runs_of.ensures)
    ∙ ap (λ m. remove m k) c.self.view_is
