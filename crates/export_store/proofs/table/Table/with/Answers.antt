use Rattle.std.proofs.Common.{sym, ap, subst, ◌∙◌, ◌≡◌, All}
use Rattle.std.specs.Arc.{arc_value}
use Rattle.std.specs.FinMap.{put, insert}
use Rattle.pp_values.specs.Rising.{text_cmp}
use Rattle.export_store.specs.declared.root.Root.{Root}
use Rattle.export_store.specs.Levels.{root_entries, runs_entries, IsRun}
use Rattle.export_store.proofs.MapLemmas.{true_of, test_of, sorted_with, map_with}
use Rattle.export_store.proofs.table.Table.with.Goals as goal

pub invariant_of-result : goal.invariant_of-result
invariant_of-result g c =
    let k = c.in_ok-key.key in
    let v = arc_value c.args.value in
    let runs : (arc_value c.in_ok-root.root).runs.items ≡ c.in_ok-runs.runs.items = ap (λ (t : Root _). t.runs.items) c.in_ok-root.ensures.ok in
    record {
      sorted = true_of _ (sorted_with (root_entries c.self.inside.root) _ k v (test_of _ c.self.invariant.sorted)
          (ap runs_entries runs ∙ c.in_ok-runs.ensures.entries ∙ ap (λ rs. put text_cmp k v (runs_entries rs)) c.runs_of.ensures));
      runs = subst (All IsRun) (sym runs) c.in_ok-runs.ensures.runs;
    }

pub returns : goal.returns
returns g c =
    let k = c.in_ok-key.key in
    let v = arc_value c.args.value in
    let runs : (arc_value c.in_ok-root.root).runs.items ≡ c.in_ok-runs.runs.items = ap (λ (t : Root _). t.runs.items) c.in_ok-root.ensures.ok in
    map_with (root_entries c.self.inside.root) _ k v (test_of _ c.self.invariant.sorted)
    (ap runs_entries runs ∙ c.in_ok-runs.ensures.entries ∙ ap (λ rs. put text_cmp k v (runs_entries rs)) c.runs_of.ensures)
    ∙ ap (λ m. insert m k v) c.self.view_is
    ∙ ap (λ n. insert c.args.self.now n v) c.in_ok-key.ensures
