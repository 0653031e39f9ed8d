-- The table of the functions.
use Rattle.std.specs.Prelude.{ℕ, Option, None, Some, Result, Ok, Err, List}
use Rattle.pp_values.specs.declared.fault.Fault.{Fault}
use Rattle.pp_values.specs.declared.fault.What.{What}
use Rattle.pp_values.specs.declared.fault.What.TheVariants as what
use Rattle.pp_values.specs.declared.place.Place.{Place}
use Rattle.pp_values.specs.Datum.{Datum}
use Rattle.pp_values.specs.Faults.{fault}
use Rattle.pp_funcs.specs.declared.function.Function.{Function}
use Rattle.pp_funcs.specs.declared.function.Function.TheVariants as f
use Rattle.pp_funcs.specs.declared.refusal.Refusal.{Refusal}
use Rattle.pp_funcs.specs.declared.refusal.Refusal.TheVariants as refusal
use Rattle.pp_funcs.specs.Counts.{count, is_empty}
use Rattle.pp_funcs.specs.Digging.{dig}
use Rattle.pp_funcs.specs.Lists.{keys, values, flatten, join, unique}
use Rattle.pp_funcs.specs.Names.{function_of}
use Rattle.pp_funcs.specs.Numbers.{absolute, least, greatest}
use Rattle.pp_funcs.specs.Refusals.{of_one}
use Rattle.pp_funcs.specs.Texts.{failure, upcase, downcase, strip}

abbrev pub computed : Function → List Datum → Result Datum Refusal
computed f.Fail arguments = failure arguments
computed f.Length arguments = of_one count arguments
computed f.Size arguments = of_one count arguments
computed f.Empty arguments = of_one is_empty arguments
computed f.Keys arguments = of_one keys arguments
computed f.Values arguments = of_one values arguments
computed f.Join arguments = join arguments
computed f.Flatten arguments = of_one flatten arguments
computed f.Unique arguments = of_one unique arguments
computed f.Upcase arguments = of_one upcase arguments
computed f.Downcase arguments = of_one downcase arguments
computed f.Strip arguments = of_one strip arguments
computed f.Dig arguments = dig arguments
computed f.Min arguments = least arguments
computed f.Max arguments = greatest arguments
computed f.Abs arguments = of_one absolute arguments

-- the function of a name, if there is one
abbrev pub computed_by : Option Function → List Datum → Result Datum Refusal
computed_by None arguments = Err refusal.Unknown
computed_by (Some f) arguments = computed f arguments

abbrev pub called : List ℕ → List Datum → Result Datum Refusal
called name arguments = computed_by (function_of name) arguments

-- no such function, another number or other kinds of arguments, and a result that is no 64-bit integer, which name the
-- function as it is written; and the message of a failure
abbrev pub refused : List ℕ → Refusal → What
refused name refusal.Unknown = what.UnknownFunction name
refused name refusal.Arguments = what.WrongArguments name
refused name refusal.Range = what.NumberRange name
refused name (refusal.Failed message) = what.Failed message

abbrev pub refusal_fault : List ℕ → Place → Refusal → Fault
refusal_fault name at r = fault at (refused name r)

-- a refusal as a fault at this place
abbrev pub at_place : List ℕ → Place → Result Datum Refusal → Result Datum Fault
at_place name place (Ok d) = Ok d
at_place name place (Err r) = Err (refusal_fault name place r)

-- the value of a call, or its fault
abbrev pub applied : List ℕ → List Datum → Place → Result Datum Fault
applied name arguments place = at_place name place (called name arguments)
