-- What resources are called on their node: no two of a kind may be called the same.
use Rattle.std.specs.Prelude.{ℕ, ⊤, Bool, true, false, ◌&&◌, if◌then◌else◌, List, [], ◌∷◌, ◌++◌, find, map, Option}
use Rattle.std.specs.Prelude.{None, Some, Result, Ok, Err, codes}
use Rattle.std.specs.Str.{bytes_eq}
use Rattle.pp_ops.specs.Same.{same}
use Rattle.pp_values.specs.Answers.{and_then, in_turn}
use Rattle.pp_values.specs.Datum.{Datum, undef, text}
use Rattle.pp_values.specs.Faults.{fault}
use Rattle.pp_values.specs.Settings.{Setting}
use Rattle.pp_values.specs.Views.{view}
use Rattle.pp_values.specs.declared.fault.Fault.{Fault}
use Rattle.pp_values.specs.declared.fault.What.TheVariants.{SameNamevar}
use Rattle.pp_values.specs.declared.place.Place.{Place}
use Rattle.pp_values.specs.declared.reference.Reference.{Reference}
use Rattle.res_core.specs.AttributeViews.{set_in}
use Rattle.res_core.specs.NativeTypes as native_types
use Rattle.res_core.specs.NativeTypes.{native_of}
use Rattle.res_core.specs.declared.declared.Declared.{Declared}
use Rattle.res_core.specs.declared.native_type.NativeType.{NativeType}
use Rattle.res_core.specs.declared.native_type.NativeType.TheVariants as native
use Rattle.res_book.specs.Rows.{is_live}
use Rattle.res_book.specs.declared.row.Row.{Row}
use Rattle.override_rules.specs.Meaning.{State}
use Rattle.override_rules.specs.Names.{attributes_of}
use Rattle.catalog_finish.specs.declared.named.Named.{Named}

-- a resource with what it is called, and the provider that makes it
pub record Called : Type 0 where
  pub kind : List ℕ
  pub title : List ℕ
  pub name : Datum
  pub provider : Datum

abbrev pub called : Named → Called
called n = record { kind = n.kind; title = n.title; name = view n.name; provider = view n.provider }

abbrev pub all_called : List Named → List Called
all_called = map called

-- values are the same in every part, letter by letter
abbrev pub same_name : Called → Called → Bool
same_name a b = bytes_eq a.kind b.kind && (same a.name b.name && same a.provider b.provider)

-- an `exec` or a `notify` may be called as another is
abbrev pub is_told_apart : NativeType → Bool
is_told_apart native.Exec = false
is_told_apart native.Notify = false
is_told_apart n = true

-- the title stands in where the name attribute is not set
abbrev pub or_title : Option Datum → List ℕ → Datum
or_title None title = text title
or_title (Some d) title = d

abbrev pub or_undef : Option Datum → Datum
or_undef None = undef
or_undef (Some d) = d

-- packages of one name differ where their providers do
abbrev pub provider_of : NativeType → List Setting → Datum
provider_of native.Package ss = or_undef (set_in ss (codes "provider"))
provider_of n ss = undef

abbrev pub called_by : NativeType → Declared → List Setting → Called
called_by n d ss = record {
  kind = d.item.kind;
  title = d.item.title;
  name = or_title (set_in ss (native_types.row n).namevar) d.item.title;
  provider = provider_of n ss;
}

-- only native types have names
abbrev pub native_called : Option NativeType → Declared → List Setting → Option Called
native_called None d ss = None
native_called (Some n) d ss = if is_told_apart n then Some (called_by n d ss) else None

abbrev pub reference_in : Called → Reference
reference_in c = record { kind = c.kind; title = c.title }

-- F30 names the later one and the earlier one, and stands at the later one
abbrev pub name_told : Place → Called → List Called → Option Called → Result (List Called) Fault
name_told at c done None = Ok (done ++ c ∷ [])
name_told at c done (Some earlier) = Err (fault at (SameNamevar (reference_in c) (reference_in earlier)))

abbrev pub with_name : Place → List Called → Option Called → Result (List Called) Fault
with_name at done None = Ok done
with_name at done (Some c) = name_told at c done (find (same_name c) done)

abbrev pub name_step : State → List Called → Row → Result (List Called) Fault
name_step s done r =
    if is_live r
    then with_name r.declared.at done (native_called (native_of r.declared.item.kind) r.declared (attributes_of s r))
    else Ok done

abbrev pub names_of_all : State → List Row → Result (List Called) Fault
names_of_all s rows = in_turn (name_step s) [] rows

-- the live resources in their order
abbrev pub names_checked : State → List Row → Result ⊤ Fault
names_checked s rows = and_then (names_of_all s rows) (λ _. Ok tt)
