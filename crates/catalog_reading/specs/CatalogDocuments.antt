-- Which texts are catalogs.
use Rattle.std.specs.Prelude.{◌≡◌, ◌≤◌, ◌^◌, nat_lt, ℕ, Bool, ◌&&◌, IsTrue, List, []}
use Rattle.std.specs.List.{list_all}
use Rattle.serde_json.specs.Data.{depth}
use Rattle.serde_json.specs.Read.{max_depth}
use Rattle.pp_values.specs.Rising.{is_rising}
use Rattle.pp_values.specs.Settings.{setting_names}
use Rattle.res_core.specs.Catalogs.{Catalog, IsCatalog}
use Rattle.res_core.specs.declared.edge.Edge.{Edge}
use Rattle.res_core.specs.declared.held.Held.{Held}
use Rattle.json_documents.specs.LinesOfText.{IsOneLine}
use Rattle.json_documents.specs.ProperValues.{have_proper}
use Rattle.site_docs.specs.CatalogText.{catalog_data, catalog_text}

-- a resource is told by an index of 32 bits
abbrev pub is_index : ℕ → Bool
is_index i = nat_lt i (2 ^ 32)

-- the names of attributes rise in byte order, and their values have a form; tags rise in byte order
abbrev pub is_kept : Held → Bool
is_kept h =
    is_rising (setting_names h.item.attributes)
    && (have_proper h.item.attributes && (is_rising h.item.tags && list_all is_index h.inside))

abbrev pub has_indexes : Edge → Bool
has_indexes e = is_index e.from && is_index e.to

-- what each catalog without log lines is
pub record IsPlainCatalog (c : Catalog) : Type 0 where
  pub catalog : IsCatalog c.resources c.edges
  pub resources : IsTrue (list_all is_kept c.resources)
  pub edges : IsTrue (list_all has_indexes c.edges)
  pub log : c.log ≡ []

-- the line of a catalog whose values nest no deeper than a reader of JSON goes; log lines are no part of it
abbrev pub IsCatalogLine : Catalog → List ℕ → Type 0
IsCatalogLine c text = IsPlainCatalog c × (depth (catalog_data c) ≤ max_depth) × (text ≡ catalog_text c)

-- such a line with a line feed at its end
abbrev pub IsCatalogText : Catalog → List ℕ → Type 0
IsCatalogText = IsOneLine IsCatalogLine
