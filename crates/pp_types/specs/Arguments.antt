-- The arguments that a type takes; where there are others, it takes none.
use Rattle.std.specs.Prelude.{ℕ, ℤ, pos, if◌then◌else◌, int_lt, List, [], ◌∷◌, Option, None, Some, option_map, Result}
use Rattle.std.specs.Prelude.{Ok, Err, codes}
use Rattle.std.specs.Str.{bytes_eq}
use Rattle.pp_values.specs.declared.bounds.Bound.{Bound}
use Rattle.pp_values.specs.declared.bounds.Bound.TheVariants.{Default, Number}
use Rattle.pp_values.specs.declared.bounds.Bounds.{Bounds}
use Rattle.pp_values.specs.declared.bounds.Bounds.TheVariants as bounds
use Rattle.pp_values.specs.declared.fault.Fault.{Fault}
use Rattle.pp_values.specs.declared.fault.What.TheVariants as what
use Rattle.pp_values.specs.declared.place.Place.{Place}
use Rattle.pp_values.specs.declared.reference.Reference.{Reference}
use Rattle.pp_values.specs.Datum as d
use Rattle.pp_values.specs.Datum.{Datum}
use Rattle.pp_values.specs.Faults.{fault}
use Rattle.pp_values.specs.PTypes.{bounds_arguments}
use Rattle.pp_values.specs.Sort as n
use Rattle.pp_values.specs.Sort.{Name, Sort, of, Arguments, none, kind, bound, text, texts_arguments, types_arguments}
use Rattle.pp_values.specs.SortText.{name_text}
use Rattle.pp_types.specs.Ranges.{lowest, range_from}
use Rattle.pp_types.specs.Names.{normal_name, type_named}

-- a bound is an integer or `default`
abbrev pub bound_of : Datum → Option Bound
bound_of (d.int z) = Some (Number z)
bound_of d.default = Some Default
bound_of d = None

abbrev pub both_bounds : Option Bound → Option Bound → Option Bounds
both_bounds (Some a) (Some b) = Some (bounds.Both a b)
both_bounds a b = None

-- none, the least alone, or both
abbrev pub given_bounds : List Datum → Option Bounds
given_bounds [] = Some bounds.Omitted
given_bounds (a ∷ []) = option_map bounds.Least (bound_of a)
given_bounds (a ∷ b ∷ []) = both_bounds (bound_of a) (bound_of b)
given_bounds ds = None

-- the least is not above the greatest, with what was left out filled in
abbrev pub in_order : ℤ → Bounds → Option Bounds
in_order z b = if int_lt (range_from z b).greatest (range_from z b).least then None else Some b

abbrev pub ordered : ℤ → Option Bounds → Option Bounds
ordered z None = None
ordered z (Some b) = in_order z b

abbrev pub bounds_of : ℤ → List Datum → Option Bounds
bounds_of z ds = ordered z (given_bounds ds)

-- the type of a reference's kind and title
abbrev pub reference_type : Reference → Sort
reference_type r =
    of (if bytes_eq r.kind (codes "class") then n.class else n.kind_of_resource r.kind) (text r.title none)

-- a type, or a reference, which counts as the type of its kind and title
abbrev pub type_of : Datum → Option Sort
type_of (d.kind s) = Some s
type_of (d.reference r) = Some (reference_type r)
type_of d = None

abbrev pub text_of : Datum → Option (List ℕ)
text_of (d.text t) = Some t
text_of d = None

-- one after another, as long as there is one
abbrev pub followed : {A : Type 0} → Option A → Option (List A) → Option (List A)
followed (Some x) (Some xs) = Some (x ∷ xs)
followed x xs = None

abbrev pub all_types : List Datum → Option (List Sort)
all_types [] = Some []
all_types (x ∷ xs) = followed (type_of x) (all_types xs)

abbrev pub all_texts : List Datum → Option (List (List ℕ))
all_texts [] = Some []
all_texts (x ∷ xs) = followed (text_of x) (all_texts xs)

abbrev pub no_arguments : List Datum → Option Arguments
no_arguments [] = Some none
no_arguments ds = None

abbrev pub one_type : List Datum → Option Arguments
one_type [] = Some none
one_type (x ∷ []) = option_map (λ s. kind s none) (type_of x)
one_type ds = None

-- a type and arguments behind it
abbrev pub before_arguments : Option Sort → Option Arguments → Option Arguments
before_arguments (Some s) (Some xs) = Some (kind s xs)
before_arguments s xs = None

-- a type, and bounds on the count
abbrev pub members_of_type : List Datum → Option Arguments
members_of_type [] = Some none
members_of_type (x ∷ xs) = before_arguments (type_of x) (option_map bounds_arguments (bounds_of (pos 0) xs))

-- a type of keys, a type of values, and bounds on the count
abbrev pub entries_of_type : List Datum → Option Arguments
entries_of_type [] = Some none
entries_of_type (x ∷ xs) = before_arguments (type_of x) (members_of_type xs)

abbrev pub one_text : (List ℕ → List ℕ) → List Datum → Option Arguments
one_text normal [] = Some none
one_text normal (x ∷ []) = option_map (λ t. text (normal t) none) (text_of x)
one_text normal ds = None

abbrev pub arguments : Name → List Datum → Option Arguments
arguments n.integer ds = option_map bounds_arguments (bounds_of lowest ds)
arguments n.string ds = option_map bounds_arguments (bounds_of (pos 0) ds)
arguments n.enum ds = option_map texts_arguments (all_texts ds)
arguments n.array ds = members_of_type ds
arguments n.hash ds = entries_of_type ds
arguments n.optional ds = one_type ds
arguments n.variant ds = option_map types_arguments (all_types ds)
arguments n.not_undef ds = one_type ds
arguments n.tuple ds = option_map types_arguments (all_types ds)
arguments n.type_ ds = one_type ds
arguments n.class ds = one_text normal_name ds
arguments (n.kind_of_resource k) ds = one_text (λ t. t) ds
arguments n ds = no_arguments ds

-- the type, where it takes these arguments
abbrev pub made : Name → List Datum → Option Sort
made n ds = option_map (of n) (arguments n ds)

abbrev pub or_wrong : Name → Place → Option Sort → Result Sort Fault
or_wrong n at None = Err (fault at (what.WrongArguments (name_text n)))
or_wrong n at (Some s) = Ok s

-- the type of a name with arguments, or the fault that names the type
abbrev pub kind_of : List ℕ → List Datum → Place → Result Sort Fault
kind_of t ds at = or_wrong (type_named t) at (made (type_named t) ds)
