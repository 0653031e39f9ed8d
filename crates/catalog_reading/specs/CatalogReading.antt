-- How the line of a catalog is read: as JSON, as the catalog that this says, and by a comparison with its own line.
use Rattle.std.specs.Prelude.{ℕ, Bool, ◌&&◌, if◌then◌else◌, List, [], ◌++◌, length, map, codes, Option, Some, None}
use Rattle.std.specs.Prelude.{option_and_then}
use Rattle.std.specs.List.{list_all}
use Rattle.std.specs.Str.{bytes_eq}
use Rattle.serde_json.specs.Data.{Data}
use Rattle.serde_json.specs.Find.{as_str}
use Rattle.serde_json.specs.Read.{read}
use Rattle.res_core.specs.Catalogs.{Catalog, are_apart, are_containers, edge_cmp, is_between, is_ordered, reference_of}
use Rattle.res_core.specs.declared.edge.Edge.{Edge}
use Rattle.res_core.specs.declared.held.Held.{Held}
use Rattle.json_values.specs.FromData.{both}
use Rattle.site_docs.specs.CatalogText.{catalog_text}
use Rattle.catalog_reading.specs.CatalogParts.{list_said, said_at, edge_said, held_said}

-- ---- what a catalog keeps of its resources and edges

-- of so many resources
abbrev pub are_contained : ℕ → List Held → Bool
are_contained count hs = list_all (λ h. are_containers count h.inside) hs

unfoldable pub is_whole : List Held → List Edge → Bool
is_whole hs es =
    are_contained (length hs) hs
    && (list_all (is_between (length hs)) es && (is_ordered edge_cmp es && are_apart (map reference_of hs)))

-- ---- the catalog

-- the node, the resources and the edges
unfoldable pub parts_said : Data → Option (List ℕ × (List Held × List Edge))
parts_said d =
    both (λ node rest. (node, rest)) (said_at as_str (codes "node") d)
    (both (λ resources edges. (resources, edges)) (said_at (list_said held_said) (codes "resources") d)
    (said_at (list_said edge_said) (codes "edges") d))

abbrev pub if_whole : List ℕ × (List Held × List Edge) → Option Catalog
if_whole p =
    if is_whole p.1.0 p.1.1 then Some (record { node = p.0; resources = p.1.0; edges = p.1.1; log = [] }) else None

abbrev pub catalog_said : Data → Option Catalog
catalog_said d = option_and_then if_whole (parts_said d)

-- a second spelling of the line is refused
abbrev pub if_written : List ℕ → Catalog → Option Catalog
if_written line c = if bytes_eq (catalog_text c) line then Some c else None

abbrev pub catalog_written : List ℕ → Data → Option Catalog
catalog_written line d = option_and_then (if_written line) (catalog_said d)

abbrev pub catalog_in : List ℕ → Option Catalog
catalog_in line = option_and_then (catalog_written line) (read line)

-- ---- names by which resources are told apart

-- no kind has a `[` in it
abbrev pub name_of : Held → List ℕ
name_of h = h.item.kind ++ (codes "[" ++ h.item.title)
