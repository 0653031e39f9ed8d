-- `=~`, and the options of `case` and selectors.
use Rattle.std.specs.Prelude.{Bool, true, false, ◌||◌, Result, Ok, Err, codes}
use Rattle.pp_values.specs.declared.fault.Fault.{Fault}
use Rattle.pp_values.specs.declared.place.Place.{Place}
use Rattle.pp_values.specs.Datum.{Datum, reference, kind}
use Rattle.pp_values.specs.Equal.{equal}
use Rattle.pp_types.specs.Accepts.{type_accepts}
use Rattle.pp_types.specs.Arguments.{reference_type}
use Rattle.expr_eval.specs.Faults.{bad_operand}

-- `value =~ type`: a reference counts as the type of its kind and title
abbrev pub is_of : Datum → Datum → Place → Result Bool Fault
is_of d (kind s) at = Ok (type_accepts s d)
is_of d (reference r) at = Ok (type_accepts (reference_type r) d)
is_of d e at = Err (bad_operand (codes "=~") at)

-- a type accepts the value
abbrev pub is_accepted_by : Datum → Datum → Bool
is_accepted_by (kind s) d = type_accepts s d
is_accepted_by option d = false

-- an option other than `default` takes the control value: it is equal, or a type that accepts it
abbrev pub option_takes : Datum → Datum → Bool
option_takes option control = equal option control || is_accepted_by option control
