-- Data types as values. What a type's name gives is the type without arguments; `[ ]` gives a type its arguments, in
-- the place of those that it had. A class with a name, and a kind of resource with a title, are references.
use Rattle.std.specs.Prelude.{ℕ, Option, None, Some, Result, Ok, Err, List, [], ◌∷◌, codes}
use Rattle.pp_values.specs.declared.fault.Fault.{Fault}
use Rattle.pp_values.specs.declared.place.Place.{Place}
use Rattle.pp_values.specs.declared.reference.Reference.{Reference}
use Rattle.pp_values.specs.Answers.{and_then}
use Rattle.pp_values.specs.Datum as d
use Rattle.pp_values.specs.Datum.{Datum, members_of}
use Rattle.pp_values.specs.Sort as n
use Rattle.pp_values.specs.Sort.{Name, Sort, of, none, text}
use Rattle.pp_types.specs.Arguments.{made, or_wrong}
use Rattle.pp_types.specs.Names.{type_named}
use Rattle.expr_eval.specs.Faults.{bad_operand}

-- what the name of a type gives in an expression
abbrev pub bare_type : List ℕ → Datum
bare_type name = d.kind (of (type_named name) none)

abbrev pub type_name : Sort → Name
type_name (of n xs) = n

-- the type with these arguments, or the fault that it does not take them, which names the type
abbrev pub with_arguments : Sort → List Datum → Place → Result Sort Fault
with_arguments s arguments at = or_wrong (type_name s) at (made (type_name s) arguments)

abbrev pub titled : List ℕ → List ℕ → Reference
titled k t = record { kind = k; title = t }

-- the reference that a type is, if it is one: `Class['a']`, `File['/tmp']`
abbrev pub reference_of : Sort → Option Reference
reference_of (of n.class (text name none)) = Some (titled (codes "class") name)
reference_of (of (n.kind_of_resource k) (text title none)) = Some (titled k title)
reference_of s = None

abbrev pub reference_or_type : Sort → Option Reference → Datum
reference_or_type s None = d.kind s
reference_or_type s (Some r) = d.reference r

abbrev pub as_value : Sort → Datum
as_value s = reference_or_type s (reference_of s)

-- access to a type, by the list of its arguments
abbrev pub type_accessed : Sort → Datum → Place → Result Datum Fault
type_accessed s (d.list arguments) at = and_then (with_arguments s (members_of arguments) at) (λ t. Ok (as_value t))
type_accessed s a at = Err (bad_operand (codes "[]") at)
