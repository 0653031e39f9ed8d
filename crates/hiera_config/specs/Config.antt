-- What a configuration says. None where it is not lawful.
use Rattle.std.specs.Prelude.{◌≡◌, ⊤, ℕ, Bool, true, false, ◌&&◌, ◌==◌, List, [], ◌∷◌, Option, None, Some, option_map}
use Rattle.std.specs.Prelude.{option_and_then, Result, codes}
use Rattle.std.specs.List.{list_any}
use Rattle.std.specs.Option.{ok_or}
use Rattle.std.specs.Str.{bytes_eq}
use Rattle.serde_json.specs.Data.{Data, Items, no_items, item, Members, no_members, member}
use Rattle.serde_json.specs.Find.{get, as_object, as_array, as_str, as_number, as_u64}
use Rattle.serde_json.specs.Read.{read}
use Rattle.pp_values.specs.Faults.{fault}
use Rattle.pp_values.specs.declared.fault.Fault.{Fault}
use Rattle.pp_values.specs.declared.fault.What.TheVariants as what
use Rattle.pp_values.specs.declared.fault.Stop.{Stop}
use Rattle.pp_values.specs.declared.fault.Stop.TheVariants as stop
use Rattle.pp_values.specs.declared.place.Place.{Place}
use Rattle.json_values.specs.FromData.{both}
use Rattle.json_values.specs.Forms.{guard}
use Rattle.hiera_config.specs.declared.config.Layer.{Layer}
use Rattle.hiera_config.specs.declared.config.Layer.TheVariants as layer
use Rattle.hiera_config.specs.declared.config.LevelPaths.{LevelPaths}
use Rattle.hiera_config.specs.declared.config.LevelPaths.TheVariants as paths
use Rattle.hiera_config.specs.declared.config.Level.{Level}
use Rattle.hiera_config.specs.declared.config.Config.{Config}

abbrev pub Names : Type 0
Names = List (List ℕ)

-- it is an object, and each member has one of these names
abbrev pub are_among : Names → Members → Bool
are_among names no_members = true
are_among names (member name d ms) = list_any (bytes_eq name) names && are_among names ms

abbrev pub has_only : Names → Option Members → Bool
has_only names None = false
has_only names (Some ms) = are_among names ms

-- ---- parts

-- a list of texts
abbrev pub texts_from : Items → Option Names
texts_from no_items = Some []
texts_from (item d ds) = both (λ t ts. t ∷ ts) (as_str d) (texts_from ds)

abbrev pub texts_in : Data → Option Names
texts_in d = option_and_then texts_from (as_array d)

-- a text, or this one where there is no such member
abbrev pub text_or : List ℕ → Option Data → Option (List ℕ)
text_or default None = Some default
text_or default (Some d) = as_str d

-- `data_hash`, where it is given, is `json_data`
abbrev pub is_text : List ℕ → Option (List ℕ) → Bool
is_text t None = false
is_text t (Some u) = bytes_eq u t

abbrev pub json_data_or_none : Option Data → Bool
json_data_or_none None = true
json_data_or_none (Some d) = is_text (codes "json_data") (as_str d)

abbrev pub has_json_data : Data → Bool
has_json_data d = json_data_or_none (get (codes "data_hash") d)

-- `path`, `paths` and `mapped_paths`
abbrev pub one_template : List ℕ → LevelPaths
one_template t = paths.Templates (t ∷ [])

abbrev pub templates : Names → LevelPaths
templates ts = paths.Templates ts

abbrev pub mapped : Names → Option LevelPaths
mapped (variable ∷ name ∷ template ∷ []) = Some (paths.Mapped variable name template)
mapped ts = None

-- exactly one of them is there
abbrev pub paths_by : Option Data → Option Data → Option Data → Option LevelPaths
paths_by (Some path) None None = option_map one_template (as_str path)
paths_by None (Some several) None = option_map templates (texts_in several)
paths_by None None (Some three) = option_and_then mapped (texts_in three)
paths_by path several three = None

abbrev pub paths_in : Data → Option LevelPaths
paths_in d = paths_by (get (codes "path") d) (get (codes "paths") d) (get (codes "mapped_paths") d)

-- ---- levels

abbrev pub level_names : Names
level_names =
    codes "name" ∷ codes "datadir" ∷ codes "data_hash" ∷ codes "path" ∷ codes "paths" ∷ codes "mapped_paths" ∷ []

abbrev pub level_of : List ℕ → List ℕ → LevelPaths → Level
level_of name folder paths = record { name = name; folder = folder; paths = paths }

abbrev pub name_in : Data → Option (List ℕ)
name_in d = option_and_then as_str (get (codes "name") d)

abbrev pub applied : {A B : Type 0} → (A → B) → A → B
applied f a = f a

abbrev pub level_parts : List ℕ → Data → Option Level
level_parts folder d = both applied (both level_of (name_in d) (text_or folder (get (codes "datadir") d))) (paths_in d)

-- `folder` is the default folder of data
abbrev pub level_in : List ℕ → Data → Option Level
level_in folder d = guard (has_only level_names (as_object d) && has_json_data d) (level_parts folder d)

abbrev pub levels_from : List ℕ → Items → Option (List Level)
levels_from folder no_items = Some []
levels_from folder (item d ds) = both (λ l ls. l ∷ ls) (level_in folder d) (levels_from folder ds)

-- no levels where the list is not given
abbrev pub levels_in : List ℕ → Option Data → Option (List Level)
levels_in folder None = Some []
levels_in folder (Some d) = option_and_then (levels_from folder) (as_array d)

-- ---- the whole

abbrev pub default_names : Names
default_names = codes "datadir" ∷ codes "data_hash" ∷ []

abbrev pub folder_in : Data → Option (List ℕ)
folder_in d =
    guard (has_only default_names (as_object d) && has_json_data d) (text_or (codes "data") (get (codes "datadir") d))

-- the default folder of data
abbrev pub default_folder : Option Data → Option (List ℕ)
default_folder None = Some (codes "data")
default_folder (Some d) = folder_in d

abbrev pub is_five : Option ℕ → Bool
is_five None = false
is_five (Some n) = n == 5

abbrev pub is_version : Option Data → Bool
is_version None = false
is_version (Some d) = is_five (option_and_then as_u64 (as_number d))

-- only a module has a default hierarchy
abbrev pub config_names : Bool → Names
config_names true = codes "version" ∷ codes "defaults" ∷ codes "hierarchy" ∷ codes "default_hierarchy" ∷ []
config_names false = codes "version" ∷ codes "defaults" ∷ codes "hierarchy" ∷ []

abbrev pub config_from : List Level → List Level → Config
config_from levels default_levels = record { levels = levels; default_levels = default_levels }

abbrev pub config_with : Data → List ℕ → Option Config
config_with d folder =
    both config_from
    (levels_in folder (get (codes "hierarchy") d))
    (levels_in folder (get (codes "default_hierarchy") d))

abbrev pub config_of : Bool → Data → Option Config
config_of is_module d =
    guard (has_only (config_names is_module) (as_object d) && is_version (get (codes "version") d))
    (option_and_then (config_with d) (default_folder (get (codes "defaults") d)))

-- the configuration that a text is
abbrev pub config_read : Bool → List ℕ → Option Config
config_read is_module text = option_and_then (config_of is_module) (read text)

abbrev pub is_module : Layer → Bool
is_module layer.Global = false
is_module layer.Environment = false
is_module (layer.Module name) = true

-- a text that is none is the fault of its path
abbrev pub config_or_fault : List ℕ → List ℕ → Layer → Place → Result Config Fault
config_or_fault path text layer at = ok_or (config_read (is_module layer) text) (fault at (what.BadData path))

-- the stop tells that the file at a path is faulty, unless memory ran out
abbrev pub IsBadData : Stop → List ℕ → Place → Type 0
IsBadData (stop.Fault f) path at = f ≡ fault at (what.BadData path)
IsBadData stop.Memory path at = ⊤
