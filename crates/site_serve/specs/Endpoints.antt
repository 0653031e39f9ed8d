-- What paths name, and the one method that each takes.
use Rattle.std.specs.Prelude.{ℕ, if◌then◌else◌, nat_eq, codes, List, Option, Some, None, option_map, option_and_then}
use Rattle.std.specs.Cmp.Lexicographic.{pointwise}
use Rattle.site_io.specs.Folders.{after_front}
use Rattle.site_bundle.specs.RequestsOf.{if_node_name}
use Rattle.site_serve.specs.declared.endpoint.Endpoint.{Endpoint}
use Rattle.site_serve.specs.declared.endpoint.Endpoint.TheVariants as at

-- the name of a node that stands behind this front, and is all that stands there
abbrev pub node_behind : List ℕ → List ℕ → Option (List ℕ)
node_behind front path = option_and_then if_node_name (after_front front path)

abbrev pub or_else : {A : Type 0} → Option A → Option A → Option A
or_else None other = other
or_else (Some a) other = Some a

abbrev pub site_at : List ℕ → Option Endpoint
site_at path = if pointwise nat_eq path (codes "/site") then Some at.Site else None

-- What the path names, as it was sent: nothing in it is decoded, and `?` with what follows belongs to it. It names
-- nothing where the name of a node is due and there is none.
abbrev pub endpoint_of : List ℕ → Option Endpoint
endpoint_of path =
    or_else (option_map at.Catalog (node_behind (codes "/catalog/") path))
    (or_else (option_map at.Node (node_behind (codes "/node/") path))
    (or_else (option_map at.Report (node_behind (codes "/report/") path)) (site_at path)))

abbrev pub method_of : Endpoint → List ℕ
method_of (at.Catalog node) = codes "POST"
method_of (at.Node node) = codes "DELETE"
method_of at.Site = codes "PUT"
method_of (at.Report node) = codes "POST"
