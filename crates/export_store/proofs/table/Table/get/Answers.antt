use Rattle.std.proofs.Common.{sym, ap, ◌∙◌}
use Rattle.std.specs.FinMap.{find, get, get-from_sorted}
use Rattle.pp_values.specs.Rising.{text_cmp}
use Rattle.export_store.specs.Levels.{root_entries, runs_entries}
use Rattle.export_store.specs.Levels.{MapOf}
use Rattle.export_store.proofs.MapLemmas.{test_of}
use Rattle.export_store.proofs.table.Table.get.Goals as goal

pub returns : goal.returns
returns g c =
    let k = c.args.key.now in
    c.value_in_runs.ensures
    ∙ ap (λ runs. find text_cmp k (runs_entries runs)) c.runs_of.ensures
    ∙ sym (get-from_sorted text_cmp (root_entries c.self.inside.root) k (test_of _ c.self.invariant.sorted))
    ∙ ap (λ (m : MapOf _). get m k) c.self.view_is
