use Rattle.std.proofs.Common.{sym, ap, ◌∙◌}
use Rattle.export_store.specs.Levels.{runs_entries}
use Rattle.export_store.proofs.MapLemmas.{empty-map, no_members}
use Rattle.export_store.proofs.table.Table.is_empty.Goals as goal

pub returns : goal.returns
returns g c = λ none.
    sym c.self.view_is ∙ empty-map _ (ap runs_entries (sym c.runs_of.ensures ∙ no_members _ none))
