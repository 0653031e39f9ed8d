-- A law of catalogs that a compile makes.
use Rattle.std.specs.Prelude.{◌≡◌, ℕ, List, Ok}
use Rattle.pp_values.specs.Datum.{Datum}
use Rattle.rel_graph.specs.CatalogPairs.{IsAcyclic}
use Rattle.res_core.specs.declared.catalog.Catalog.{Catalog}
use Rattle.res_core.specs.declared.export_set.ExportSet.{ExportSet}
use Rattle.export_store.specs.Sets.{Sets}
use Rattle.site_bundle.specs.SiteView.{SiteView}
use Rattle.compile_core.specs.Meaning.{meaning}

-- In a catalog that a site means for a node nothing stands inside itself, and nothing comes before itself.
abbrev pub NoCycleIsMeant : Type 0
NoCycleIsMeant = (site : SiteView) (node : List ℕ) (facts : Datum) (sets : Sets) (made : Catalog × ExportSet) →
    meaning site node facts sets ≡ Ok made → IsAcyclic made.0.resources made.0.edges
