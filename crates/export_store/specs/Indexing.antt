-- What the index has: under the key of a kind, and of a kind and a tag, the nodes that export such a resource.
use Rattle.std.specs.Prelude.{◌≡◌, ℕ, ◌&&◌, if◌then◌else◌, Option, None, Some, List, [], ◌∷◌, ◌++◌, map}
use Rattle.std.specs.List.{flat_map}
use Rattle.std.specs.FinMap.{get, entries}
use Rattle.std.specs.Str.{bytes_eq}
use Rattle.pp_values.specs.Rising.{has_text, sorted}
use Rattle.res_core.specs.TagNames.{lowered}
use Rattle.res_core.specs.declared.exported.Exported.{Exported}
use Rattle.res_core.specs.declared.export_set.ExportSet.{ExportSet}
use Rattle.export_store.specs.declared.export_place.ExportPlace.{ExportPlace}
use Rattle.export_store.specs.ExportQueries.{found_in}
use Rattle.export_store.specs.Levels.{MapOf}
use Rattle.export_store.specs.Sets.{Sets}

-- by key, nodes with their sets
abbrev pub Index : Type 0
Index = MapOf Sets

-- the key of a kind, and that of a kind and a tag: tags that differ in the case of ASCII letters alone have one key.
-- Two queries may share a key, since what is found under it is looked at again
abbrev pub key_of : List ℕ → Option (List ℕ) → List ℕ
key_of kind None = kind
key_of kind (Some tag) = lowered (kind ++ (10 ∷ tag))

-- the keys of a resource of this kind with these tags
abbrev pub resource_keys : List ℕ → List (List ℕ) → List (List ℕ)
resource_keys kind tags = key_of kind None ∷ map (λ tag. key_of kind (Some tag)) tags

abbrev pub keys_of : List Exported → List (List ℕ)
keys_of = flat_map (λ e. resource_keys e.item.kind e.item.tags)

-- the keys of a set in rising order, each once
abbrev pub set_keys : ExportSet → List (List ℕ)
set_keys set = sorted (keys_of set.items)

-- a node's set among these nodes, if there are any
abbrev pub set_among : Option Sets → List ℕ → Option ExportSet
set_among None node = None
set_among (Some nodes) node = get nodes node

-- the set that the index has of a node under a key
abbrev pub set_under : Index → List ℕ → List ℕ → Option ExportSet
set_under index key node = set_among (get index key) node

-- a set, if there is one and it has the key
abbrev pub with_key : List ℕ → Option ExportSet → Option ExportSet
with_key key None = None
with_key key (Some set) = if has_text (set_keys set) key then Some set else None

-- what is found among these nodes, if there are any
abbrev pub found_among : List ℕ → Option (List ℕ) → List ℕ → Option Sets → List ExportPlace
found_among kind tag but_node None = []
found_among kind tag but_node (Some nodes) = found_in kind tag but_node (entries nodes)

-- under each key the index has the sets that have this key, and no others
abbrev pub IsIndexOf : Sets → Index → Type 0
IsIndexOf sets index = (key node : List ℕ) → set_under index key node ≡ with_key key (get sets node)

-- the same but for one node, of which it has nothing
abbrev pub IsIndexOfOthers : List ℕ → Sets → Index → Type 0
IsIndexOfOthers node sets index =
    (key other : List ℕ) →
    set_under index key other ≡ (if bytes_eq other node then None else with_key key (get sets other))

-- under these keys the new index has this set of the node, or none, and else what the old one has
abbrev pub SetsUnder : List (List ℕ) → List ℕ → Option ExportSet → Index → Index → Type 0
SetsUnder keys node set old new =
    (key other : List ℕ) →
    set_under new key other ≡ (if has_text keys key && bytes_eq other node then set else set_under old key other)

-- these nodes with the set of one of them, or without any of it
abbrev pub SetsAmong : List ℕ → Option ExportSet → Option Sets → Sets → Type 0
SetsAmong node set old new =
    (other : List ℕ) → get new other ≡ (if bytes_eq other node then set else set_among old other)
