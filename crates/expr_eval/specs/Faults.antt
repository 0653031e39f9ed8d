-- The faults of steps, at the place of the expression: operands that an operator, or arguments that a function, does
-- not take.
use Rattle.std.specs.Prelude.{ℕ, List, Option, None, Some, Result, Ok, Err}
use Rattle.pp_values.specs.declared.fault.Fault.{Fault}
use Rattle.pp_values.specs.declared.fault.What.TheVariants as what
use Rattle.pp_values.specs.declared.place.Place.{Place}
use Rattle.pp_values.specs.Faults.{fault}

-- the operator does not take these operands
abbrev pub bad_operand : List ℕ → Place → Fault
bad_operand operator at = fault at (what.BadOperand operator)

-- the function or data type does not take these arguments
abbrev pub wrong_arguments : List ℕ → Place → Fault
wrong_arguments name at = fault at (what.WrongArguments name)

-- what a function makes of its arguments, where it takes them
abbrev pub or_wrong : {A : Type 0} → List ℕ → Place → Option A → Result A Fault
or_wrong name at None = Err (wrong_arguments name at)
or_wrong name at (Some x) = Ok x
