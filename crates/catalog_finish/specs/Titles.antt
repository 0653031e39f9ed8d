-- Declarations that are called by their titles.
use Rattle.std.specs.Prelude.{ℕ, Bool, true, not, ◌&&◌, ◌||◌, ◌==◌, List, Option, None, Some, codes}
use Rattle.std.specs.List.{list_any}
use Rattle.std.specs.Str.{bytes_eq}
use Rattle.pp_values.specs.Settings.{Setting}
use Rattle.res_core.specs.NativeTypes as native_types
use Rattle.res_core.specs.NativeTypes.{native_of}
use Rattle.res_core.specs.declared.attribute.Attribute.{Attribute}
use Rattle.res_core.specs.declared.native_type.NativeType.{NativeType}
use Rattle.res_book.specs.declared.row.Row.{Row}
use Rattle.override_rules.specs.Meaning.{State, touched_by}
use Rattle.override_rules.specs.Names.{attributes_of}
use Rattle.catalog_finish.specs.Naming.{is_told_apart}

abbrev pub has_setting : List Setting → List ℕ → Bool
has_setting ss name = list_any (λ s. bytes_eq s.0 name) ss

-- what is told apart by name has neither a name of its own nor a provider
abbrev pub has_no_name : NativeType → List Setting → Bool
has_no_name n ss =
    not (is_told_apart n) || not (has_setting ss (native_types.row n).namevar || has_setting ss (codes "provider"))

abbrev pub is_titled : Option NativeType → List Setting → Bool
is_titled None ss = true
is_titled (Some n) ss = has_no_name n ss

abbrev pub is_by_title : State → Row → Bool
is_by_title s r = is_titled (native_of r.declared.item.kind) (attributes_of s r)

-- ---- as a declaration tells by itself: with a line on it, or a default for its kind, it may have a name

abbrev pub is_unnamed : State → Row → NativeType → Bool
is_unnamed s r n = (touched_by s r == 0) && has_no_name n r.declared.item.attributes

abbrev pub is_sure : State → Row → Option NativeType → Bool
is_sure s r None = true
is_sure s r (Some n) = is_unnamed s r n

abbrev pub is_surely_by_title : State → Row → Bool
is_surely_by_title s r = is_sure s r (native_of r.declared.item.kind)

-- ---- the same of the attributes themselves

abbrev pub has_attribute : List Attribute → List ℕ → Bool
has_attribute attributes name = list_any (λ a. bytes_eq a.name name) attributes

abbrev pub are_nameless : NativeType → List Attribute → Bool
are_nameless n attributes =
    not (is_told_apart n)
    || not (has_attribute attributes (native_types.row n).namevar || has_attribute attributes (codes "provider"))
