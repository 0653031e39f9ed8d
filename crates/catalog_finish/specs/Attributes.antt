-- The attributes of resources in the catalog, and of those that are exported.
use Rattle.std.specs.Prelude.{ℕ, Bool, not, ◌&&◌, ◌||◌, if◌then◌else◌, List, [], map, filter, is_some, unwrap_or, codes}
use Rattle.std.specs.Str.{bytes_eq}
use Rattle.pp_values.specs.Plain.{is_plain_value}
use Rattle.pp_values.specs.Settings.{Setting}
use Rattle.res_core.specs.Metaparameters.{is_relation_name}
use Rattle.res_core.specs.NativeTypes.{native_of}
use Rattle.res_core.specs.declared.declared.Declared.{Declared}
use Rattle.res_book.specs.declared.row.Row.{Row}
use Rattle.override_rules.specs.Meaning.{State}
use Rattle.override_rules.specs.Names.{attributes_of}
use Rattle.override_rules.specs.SetLines.{is_value}
use Rattle.catalog_finish.specs.PlainForms.{plain_of}

abbrev pub has_value : Setting → Bool
has_value s = is_value s.1

-- the parameters with which a class or an instance was evaluated, without those that are Undef
abbrev pub bound_parameters : Row → List Setting
bound_parameters r = filter has_value (unwrap_or r.bound [])

abbrev pub is_native : Declared → Bool
is_native d = is_some (native_of d.item.kind)

abbrev pub is_tag : List ℕ → Bool
is_tag name = bytes_eq name (codes "tag")

-- A catalog has no relation metaparameters, since they are edges there, and no `tag`, since each resource has its tags.
abbrev pub is_kept : Setting → Bool
is_kept s = not (is_relation_name s.0 || is_tag s.0)

abbrev pub plain_setting : Setting → Setting
plain_setting s = (s.0, plain_of s.1)

abbrev pub in_catalog : List Setting → List Setting
in_catalog ss = map plain_setting (filter is_kept ss)

-- a catalog has the setting as it is
abbrev pub stays : Setting → Bool
stays s = is_kept s && is_plain_value s.1

-- Of a native resource it is what declaration, override lines and default statements set, of a class or an instance
-- its parameters.
abbrev pub catalog_attributes : State → Row → List Setting
catalog_attributes s r = in_catalog (if is_native r.declared then attributes_of s r else bound_parameters r)

-- What is exported keeps the relation metaparameters, for the nodes that import it. An instance exports what it is set
-- to as well, since it is evaluated where it is imported.
abbrev pub exported_attributes : State → Row → List Setting
exported_attributes s r = filter (λ a. not (is_tag a.0)) (attributes_of s r)
