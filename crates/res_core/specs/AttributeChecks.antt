-- Which attributes a resource takes, and the faults where it does not take one.
use Rattle.std.specs.Prelude.{ℕ, ⊤, Bool, ◌||◌, if◌then◌else◌, List, Option, None, Some, Result, Ok, Err}
use Rattle.pp_values.specs.Rising.{has_text}
use Rattle.pp_values.specs.Faults.{fault}
use Rattle.pp_values.specs.declared.fault.Fault.{Fault}
use Rattle.pp_values.specs.declared.fault.What.TheVariants as what
use Rattle.pp_values.specs.declared.place.Place.{Place}
use Rattle.pp_values.specs.declared.reference.Reference.{Reference}
use Rattle.res_core.specs.declared.native_type.NativeType.{NativeType}
use Rattle.res_core.specs.NativeTypes.{native_of, attributes_of}
use Rattle.res_core.specs.Metaparameters.{is_metaparameter}

-- an attribute of that name is known where the kind has these of its own
abbrev pub is_known : List (List ℕ) → List ℕ → Bool
is_known known name = has_text known name || is_metaparameter name

-- F10 where it doesn't
unfoldable pub known_checked : Reference → List (List ℕ) → List ℕ → Place → Result ⊤ Fault
known_checked r known name at =
    if is_known known name then Ok tt else Err (fault at (what.UnknownParameter r name))

-- F5 where the kind is no native one, and then F10
unfoldable pub native_checked : Reference → Option NativeType → List ℕ → Place → Result ⊤ Fault
native_checked r None name at = Err (fault at (what.UnknownType r.kind))
native_checked r (Some n) name at = known_checked r (attributes_of n) name at

unfoldable pub attribute_checked : Reference → List ℕ → Place → Result ⊤ Fault
attribute_checked r name at = native_checked r (native_of r.kind) name at
