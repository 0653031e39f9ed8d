-- What the parts of a catalog's line say: lists, indexes, edges, and resources with their attributes and tags.
use Rattle.std.specs.Prelude.{ℕ, Bool, if◌then◌else◌, List, [], ◌∷◌, codes, Option, Some, None, option_and_then}
use Rattle.std.specs.Str.{str_to_ascii_lowercase}
use Rattle.serde_json.specs.Data.{Data, Items, no_items, item, Members, no_members, member}
use Rattle.serde_json.specs.Find.{get, as_array, as_bool, as_number, as_object, as_str, as_u64}
use Rattle.pp_values.specs.Kinds.{kind_of}
use Rattle.pp_values.specs.Rising.{is_rising}
use Rattle.pp_values.specs.Settings.{Setting}
use Rattle.res_core.specs.PlainAttributes.{are_plain}
use Rattle.res_core.specs.declared.edge.Edge.{Edge}
use Rattle.res_core.specs.declared.held.Held.{Held}
use Rattle.res_core.specs.declared.resource.Resource.{Resource}
use Rattle.json_values.specs.Forms.{value_of}
use Rattle.json_values.specs.FromData.{both}
use Rattle.catalog_reading.specs.CatalogDocuments.{is_index}

-- what each of the items says, where each says something
abbrev pub each_said : {A : Type 0} → (Data → Option A) → Items → Option (List A)
each_said said no_items = Some []
each_said said (item d ds) = both (λ x xs. x ∷ xs) (said d) (each_said said ds)

abbrev pub list_said : {A : Type 0} → (Data → Option A) → Data → Option (List A)
list_said said d = option_and_then (each_said said) (as_array d)

-- what the member of this name says
abbrev pub said_at : {A : Type 0} → (Data → Option A) → List ℕ → Data → Option A
said_at said key d = option_and_then said (get key d)

-- ---- numbers

abbrev pub if_index : ℕ → Option ℕ
if_index n = if is_index n then Some n else None

abbrev pub index_said : Data → Option ℕ
index_said d = option_and_then if_index (option_and_then as_u64 (as_number d))

abbrev pub edge_of : ℕ → ℕ × Bool → Edge
edge_of from rest = record { from = from; to = rest.0; signal = rest.1 }

abbrev pub edge_in : Items → Option Edge
edge_in (item from (item to (item signal no_items))) =
    both edge_of (index_said from) (both (λ to signal. (to, signal)) (index_said to) (as_bool signal))
edge_in ds = None

abbrev pub edge_said : Data → Option Edge
edge_said d = option_and_then edge_in (as_array d)

-- ---- resources

-- a kind as it is printed
abbrev pub kind_in : List ℕ → Option (List ℕ)
kind_in text = kind_of (str_to_ascii_lowercase text)

abbrev pub kind_said : Data → Option (List ℕ)
kind_said d = option_and_then kind_in (as_str d)

abbrev pub settings_said : Members → Option (List Setting)
settings_said no_members = Some []
settings_said (member k d ms) = both (λ v ss. (k, v) ∷ ss) (value_of d) (settings_said ms)

abbrev pub attributes_said : Data → Option (List Setting)
attributes_said d = option_and_then settings_said (as_object d)

abbrev pub if_rising : List (List ℕ) → Option (List (List ℕ))
if_rising ts = if is_rising ts then Some ts else None

abbrev pub tags_said : Data → Option (List (List ℕ))
tags_said d = option_and_then if_rising (list_said as_str d)

abbrev pub resource_of : List ℕ × List ℕ → List Setting × List (List ℕ) → Resource
resource_of name rest = record { kind = name.0; title = name.1; attributes = rest.0; tags = rest.1 }

-- kind and title
abbrev pub name_said : Data → Option (List ℕ × List ℕ)
name_said d = both (λ kind title. (kind, title)) (said_at kind_said (codes "type") d) (said_at as_str (codes "title") d)

unfoldable pub resource_said : Data → Option Resource
resource_said d =
    both resource_of (name_said d)
    (both (λ attributes tags. (attributes, tags)) (said_at attributes_said (codes "attrs") d)
    (said_at tags_said (codes "tags") d))

abbrev pub if_plain : Resource → Option Resource
if_plain r = if are_plain r.attributes then Some r else None

-- a resource, and what contains it
unfoldable pub held_said : Data → Option Held
held_said d =
    both (λ item inside. record { item = item; inside = inside }) (option_and_then if_plain (resource_said d))
    (said_at (list_said index_said) (codes "in") d)
