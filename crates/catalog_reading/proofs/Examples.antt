-- Texts, and what is read of them as catalogs.
use Rattle.std.proofs.Common.{◌≡◌, ℕ, true, false, List, [], ◌∷◌, ◌++◌, Some, None, Result, Ok, Err, refl, codes}
use Rattle.std.specs.Fmt.{digits}
use Rattle.std.specs.Prelude.{⊤}
use Rattle.serde_json.proofs.OnLiterals.{serde_json_on_literals}
use Rattle.pp_values.specs.Datum.{text}
use Rattle.pp_values.specs.Settings.{Setting}
use Rattle.res_core.specs.Catalogs.{Catalog}
use Rattle.res_core.specs.declared.edge.Edge.{Edge}
use Rattle.res_core.specs.declared.held.Held.{Held}
use Rattle.json_documents.specs.LinesOfText.{read_one_line}
use Rattle.site_docs.specs.CatalogText.{held_object, held_data, edge_data, catalog_object, catalog_data}
use Rattle.catalog_reading.specs.CatalogParts.{kind_in, resource_said, held_said}
use Rattle.catalog_reading.specs.CatalogReading.{is_whole, parts_said, catalog_in, name_of}

-- what is unfolded to read a text
unfoldable when_read : ⊤
unfolding resource_said held_said is_whole parts_said held_object held_data edge_data catalog_object catalog_data digits
when_read = tt

abbrev read_as : List ℕ → Result Catalog ℕ
read_as = read_one_line catalog_in

abbrev line : List ℕ → List ℕ
line bytes = bytes ++ 10 ∷ []

abbrev held : List ℕ → List ℕ → List Setting → List (List ℕ) → List ℕ → Held
held kind title attributes tags inside = record {
  item = record { kind = kind; title = title; attributes = attributes; tags = tags };
  inside = inside;
}

abbrev between : ℕ → ℕ → Edge
between from to = record { from = from; to = to; signal = true }

-- a catalog of two resources, and its text
abbrev file : Held
file = held (codes "file") (codes "/a") ((codes "mode", text (codes "0644")) ∷ []) (codes "a" ∷ codes "b" ∷ []) []

abbrev vhost : Held
vhost = held (codes "web::vhost") (codes "x") [] [] (0 ∷ [])

two_back : read_as (line (codes "{\"catalog\":1,\"edges\":[[0,1,true]],\"node\":\"n\",\"resources\":[{\"attrs\":{\"mode\":\"0644\"},\"in\":[],\"tags\":[\"a\",\"b\"],\"title\":\"/a\",\"type\":\"File\"},{\"attrs\":{},\"in\":[0],\"tags\":[],\"title\":\"x\",\"type\":\"Web::Vhost\"}]}"))
    ≡ Ok (record { node = codes "n"; resources = file ∷ vhost ∷ []; edges = between 0 1 ∷ []; log = [] })
unfolding when_read serde_json_on_literals
two_back = refl

-- no line feed at the end, and more behind it
lines : (read_as (codes "{\"catalog\":1,\"edges\":[],\"node\":\"n\",\"resources\":[]}") ≡ Err 1)
    × (read_as [] ≡ Err 1)
    × (read_as (line (codes "{\"catalog\":1,\"edges\":[],\"node\":\"n\",\"resources\":[]}") ++ 10 ∷ []) ≡ Err 2)
unfolding when_read serde_json_on_literals
lines = (refl, refl, refl)

-- a blank; members in another order; another version; a member more
spelt : (read_as (line (codes "{\"catalog\":1,\"edges\":[], \"node\":\"n\",\"resources\":[]}")) ≡ Err 1)
    × (read_as (line (codes "{\"edges\":[],\"catalog\":1,\"node\":\"n\",\"resources\":[]}")) ≡ Err 1)
    × (read_as (line (codes "{\"catalog\":2,\"edges\":[],\"node\":\"n\",\"resources\":[]}")) ≡ Err 1)
    × (read_as (line (codes "{\"catalog\":1,\"edges\":[],\"log\":[],\"node\":\"n\",\"resources\":[]}")) ≡ Err 1)
unfolding when_read serde_json_on_literals
spelt = (refl, refl, refl, refl)

-- what the parts keep: an edge out of range, edges that do not rise, and a second resource of the same reference
abbrev one : Held
one = held (codes "notify") (codes "a") [] [] []

kept : (is_whole (one ∷ []) (between 0 0 ∷ []) ≡ true)
    × (is_whole (one ∷ []) (between 0 1 ∷ []) ≡ false)
    × (is_whole (one ∷ []) (between 0 0 ∷ between 0 0 ∷ []) ≡ false)
    × (is_whole (one ∷ one ∷ []) [] ≡ false)
    × (is_whole (file ∷ vhost ∷ []) (between 0 1 ∷ between 1 0 ∷ []) ≡ true)
    × (is_whole (file ∷ vhost ∷ []) (between 1 0 ∷ between 0 1 ∷ []) ≡ false)
    × (is_whole (vhost ∷ []) [] ≡ true)
    × (is_whole (held (codes "notify") (codes "a") [] [] (1 ∷ []) ∷ []) [] ≡ false)
unfolding is_whole
kept = (refl, refl, refl, refl, refl, refl, refl, refl)

-- the same of texts
refused : (read_as (line (codes "{\"catalog\":1,\"edges\":[[0,1,true]],\"node\":\"n\",\"resources\":[{\"attrs\":{},\"in\":[],\"tags\":[],\"title\":\"a\",\"type\":\"Notify\"}]}")) ≡ Err 1)
    × (read_as (line (codes "{\"catalog\":1,\"edges\":[],\"node\":\"n\",\"resources\":[{\"attrs\":{},\"in\":[],\"tags\":[],\"title\":\"a\",\"type\":\"Notify\"},{\"attrs\":{},\"in\":[],\"tags\":[],\"title\":\"a\",\"type\":\"Notify\"}]}")) ≡ Err 1)
    × (read_as (line (codes "{\"catalog\":1,\"edges\":[],\"node\":\"n\",\"resources\":[{\"attrs\":{},\"in\":[],\"tags\":[\"b\",\"a\"],\"title\":\"a\",\"type\":\"Notify\"}]}")) ≡ Err 1)
unfolding when_read serde_json_on_literals
refused = (refl, refl, refl)

-- kinds as they are printed, and no others; names by which resources are told apart
named : (kind_in (codes "Web::Vhost") ≡ Some (codes "web::vhost"))
    × (kind_in (codes "File[") ≡ None)
    × (kind_in [] ≡ None)
    × (name_of vhost ≡ codes "web::vhost[x")
named = (refl, refl, refl, refl)
