-- Which attributes of a declaration may be set: those that it names, those of the lines on it, and those of the
-- defaults for its kind on the way out from its scope.
use Rattle.std.specs.Prelude.{ℕ, zero, suc, ◌==◌, ◌&&◌, Bool, if◌then◌else◌, List, [], ◌∷◌, ◌++◌, filter, map, length}
use Rattle.std.specs.Prelude.{Option, None, Some, is_some, option_map, option_to_list}
use Rattle.std.specs.Str.{bytes_eq}
use Rattle.pp_values.specs.Datum.{Datum}
use Rattle.pp_values.specs.Rising.{sorted}
use Rattle.pp_values.specs.Settings.{Setting, setting_names}
use Rattle.res_book.specs.Rows.{is_imported, reference_of}
use Rattle.res_book.specs.declared.row.Row.{Row}
use Rattle.override_rules.specs.Changes.{set_to}
use Rattle.override_rules.specs.Defaults.{Default, Scope, parent_of}
use Rattle.override_rules.specs.Lines.{Line, lines_on}
use Rattle.override_rules.specs.Meaning.{State, attribute_of}
use Rattle.override_rules.specs.declared.default_key.DefaultKey.{DefaultKey}

abbrev pub is_for : List ℕ → ℕ → DefaultKey → Bool
is_for kind scope k = bytes_eq kind k.kind && (scope == k.scope)

-- the names of a scope's own defaults for a kind
abbrev pub names_in : List Default → List ℕ → ℕ → List (List ℕ)
names_in ds kind scope = map (λ d. d.0.name) (filter (λ d. is_for kind scope d.0) ds)

abbrev pub names_from : Option (Option ℕ) → List (List ℕ) → (Option ℕ → List (List ℕ)) → List (List ℕ)
names_from None own outer = []
names_from (Some parent) own outer = own ++ outer parent

-- and those of the scopes on the way out
unfoldable pub names_within : ℕ → List Scope → List Default → List ℕ → Option ℕ → List (List ℕ)
names_within zero scopes ds kind from = []
names_within (suc left) scopes ds kind None = []
names_within (suc left) scopes ds kind (Some s) =
    names_from (parent_of scopes s) (names_in ds kind s) (names_within left scopes ds kind)

abbrev pub line_names : List Line → List (List ℕ)
line_names = map (λ l. l.name)

abbrev pub default_names : State → Row → List (List ℕ)
default_names s r =
    if is_imported r.mode then []
    else names_within (length s.scopes) s.scopes s.defaults r.declared.item.kind (Some r.declared.scope)

abbrev pub names_of : State → Row → List (List ℕ)
names_of s r =
    setting_names r.declared.item.attributes
    ++ (line_names (lines_on (reference_of r.declared) s.lines) ++ default_names s r)

-- an attribute that is Undef sets nothing
abbrev pub is_set : Setting → Bool
is_set s = is_some (set_to s.1)

-- a name with its value, where it has one
abbrev pub setting_for : (List ℕ → Option Datum) → List ℕ → List Setting
setting_for value name = option_to_list (option_map (λ d. (name, d)) (value name))

-- those of these names that are set
abbrev pub settings_among : (List ℕ → Option Datum) → List (List ℕ) → List Setting
settings_among value [] = []
settings_among value (t ∷ ts) = setting_for value t ++ settings_among value ts

-- all attributes of a declaration that are set, in the order of their names
unfoldable pub attributes_of : State → Row → List Setting
attributes_of s r = settings_among (attribute_of s r) (sorted (names_of s r))
