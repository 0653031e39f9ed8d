-- What documents tell.
use Rattle.std.specs.Prelude.{◌≡◌, IsTrue, []}
use Rattle.res_core.specs.Catalogs.{Catalog, IsCatalog}
use Rattle.site_docs.specs.CatalogText.{catalog_data, catalog_text}
use Rattle.json_documents.specs.SmallNumbers.{has_small}

-- No two catalogs have one text: they differ in their log lines at most, which stand in no document.
abbrev pub CatalogsAreToldApart : Type 0
CatalogsAreToldApart =
    (c d : Catalog) → IsCatalog c.resources c.edges → IsCatalog d.resources d.edges →
    IsTrue (has_small (catalog_data c)) → IsTrue (has_small (catalog_data d)) → catalog_text c ≡ catalog_text d →
    record c { log = [] } ≡ record d { log = [] }
