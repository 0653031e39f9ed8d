-- The names of the data types as they are printed, and types without arguments.
use Rattle.std.proofs.Common.{◌≡◌, ℕ, IsTrue, List, [], Result, Ok, Err, refl, sym, ap, ◌∙◌}
use Rattle.pp_values.specs.declared.fault.Fault.{Fault}
use Rattle.pp_values.specs.declared.fault.Stop.{Stop}
use Rattle.pp_values.specs.declared.fault.Stop.TheVariants as stop
use Rattle.pp_values.specs.declared.place.Place.{Place}
use Rattle.pp_values.specs.Answers.{Answers, and_then, fault_told}
use Rattle.pp_values.specs.Datum as d
use Rattle.pp_values.specs.Datum.{Datum}
use Rattle.pp_values.specs.Sort as n
use Rattle.pp_values.specs.Sort.{Name, Sort, of, none}
use Rattle.pp_values.specs.SortText.{name_text}
use Rattle.pp_types.specs.declared.data_type.DataType.{DataType}
use Rattle.pp_types.specs.declared.data_type.DataType.TheVariants as t
use Rattle.pp_types.specs.Arguments.{made, or_wrong, kind_of}
use Rattle.pp_types.specs.Names.{data_type_named, is_type_name, name_of, type_named}
use Rattle.pp_values.proofs.Turns.{first_stops}
use Rattle.expr_eval.specs.TypeValues.{bare_type, with_arguments, as_value}

-- each is the name of a type
pub is_name : (x : DataType) → IsTrue (is_type_name (name_text (name_of x)))
is_name t.Any = refl
is_name t.Undef = refl
is_name t.Default = refl
is_name t.Boolean = refl
is_name t.Integer = refl
is_name t.Numeric = refl
is_name t.String = refl
is_name t.Enum = refl
is_name t.Scalar = refl
is_name t.Data = refl
is_name t.Array = refl
is_name t.Hash = refl
is_name t.Collection = refl
is_name t.Optional = refl
is_name t.Variant = refl
is_name t.NotUndef = refl
is_name t.Tuple = refl
is_name t.Type = refl
is_name t.CatalogEntry = refl
is_name t.Class = refl
is_name t.Resource = refl

-- and of no other one
named_back : (x : DataType) → type_named (name_text (name_of x)) ≡ name_of x
unfolding data_type_named
named_back t.Any = refl
named_back t.Undef = refl
named_back t.Default = refl
named_back t.Boolean = refl
named_back t.Integer = refl
named_back t.Numeric = refl
named_back t.String = refl
named_back t.Enum = refl
named_back t.Scalar = refl
named_back t.Data = refl
named_back t.Array = refl
named_back t.Hash = refl
named_back t.Collection = refl
named_back t.Optional = refl
named_back t.Variant = refl
named_back t.NotUndef = refl
named_back t.Tuple = refl
named_back t.Type = refl
named_back t.CatalogEntry = refl
named_back t.Class = refl
named_back t.Resource = refl

pub kind_back : (x : DataType) (arguments : List Datum) (at : Place) →
    kind_of (name_text (name_of x)) arguments at ≡ or_wrong (name_of x) at (made (name_of x) arguments)
kind_back x arguments at = ap (λ m. or_wrong m at (made m arguments)) (named_back x)

-- no type refuses to be without arguments
bare : (m : Name) (at : Place) → or_wrong m at (made m []) ≡ Ok (of m none)
bare n.any at = refl
bare n.undef at = refl
bare n.default at = refl
bare n.boolean at = refl
bare n.integer at = refl
bare n.numeric at = refl
bare n.string at = refl
bare n.enum at = refl
bare n.scalar at = refl
bare n.data_ at = refl
bare n.array at = refl
bare n.hash at = refl
bare n.collection at = refl
bare n.optional at = refl
bare n.variant at = refl
bare n.not_undef at = refl
bare n.tuple at = refl
bare n.type_ at = refl
bare n.catalog_entry at = refl
bare n.class at = refl
bare n.resource at = refl
bare (n.kind_of_resource k) at = refl

bare_kind : (name : List ℕ) (at : Place) → kind_of name [] at ≡ Ok (of (type_named name) none)
bare_kind name at = bare (type_named name) at

abbrev as_kind : Result Sort Fault → Result Datum Fault
as_kind (Ok s) = Ok (d.kind s)
as_kind (Err f) = Err f

pub bare_is : (name : List ℕ) (at : Place) (s : Sort) → kind_of name [] at ≡ Ok s →
    ◌≡◌ {A = Result Datum Fault} (Ok (bare_type name)) (Ok (d.kind s))
bare_is name at s h = ap as_kind (sym (bare_kind name at) ∙ h)

pub bare_stops : (name : List ℕ) (at : Place) (e : Stop) → Answers {T = Sort} (Err e) (kind_of name [] at) →
    Answers {T = Datum} (Err e) (Ok (bare_type name))
bare_stops name at (stop.Fault f) h = let is = bare_kind name at in absurd cc
bare_stops name at stop.Memory h = tt

-- where the arguments are wrong there is no value
pub value_stops : (s : Sort) (arguments : List Datum) (at : Place) (e : Stop) →
    Answers {T = Sort} (Err e) (with_arguments s arguments at) →
    Answers {T = Datum} (Err e) (and_then (with_arguments s arguments at) (λ t. Ok (as_value t)))
value_stops s arguments at e h = first_stops fault_told e (with_arguments s arguments at) (λ t. Ok (as_value t)) h
