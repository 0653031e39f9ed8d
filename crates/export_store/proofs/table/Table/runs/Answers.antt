use Rattle.std.proofs.Common.{sym, ap, ◌∙◌}
use Rattle.std.specs.FinMap.{entries}
use Rattle.export_store.specs.Levels.{MapOf, runs_entries}
use Rattle.export_store.proofs.MapLemmas.{test_of, entries-map}
use Rattle.export_store.proofs.table.Table.runs.Goals as goal

pub returns : goal.returns
returns g c =
    ap runs_entries c.runs_of.ensures
    ∙ sym (entries-map _ (test_of _ c.self.invariant.sorted))
    ∙ ap (λ (m : MapOf _). entries m) c.self.view_is
