-- A law of finished catalogs.
use Rattle.std.specs.Prelude.{◌≡◌, ℕ, List, Ok}
use Rattle.rel_graph.specs.CatalogPairs.{IsAcyclic}
use Rattle.res_core.specs.declared.catalog.Catalog.{Catalog}
use Rattle.res_core.specs.declared.export_set.ExportSet.{ExportSet}
use Rattle.res_book.specs.Relations.{Related}
use Rattle.res_book.specs.declared.row.Row.{Row}
use Rattle.override_rules.specs.Meaning.{State}
use Rattle.catalog_finish.specs.Finishing.{finished}

-- In a catalog that was finished nothing stands inside itself, and nothing comes before itself.
abbrev pub NoCycleIsLeft : Type 0
NoCycleIsLeft = (s : State) (rows : List Row) (related : Related) (node : List ℕ) (made : Catalog × ExportSet) →
    finished s rows related node ≡ Ok made → IsAcyclic made.0.resources made.0.edges
