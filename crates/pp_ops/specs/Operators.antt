-- The table of the operators.
use Rattle.std.specs.Prelude.{Bool, true, false, not, Option, None, Some, Result, Ok, Err, [], ◌∷◌, ◌++◌, ◌+ℤ◌, ◌-ℤ◌}
use Rattle.std.specs.declared.cmp.Ordering.{Ordering}
use Rattle.std.specs.Ordering.{is_lt, is_gt, is_le, is_ge}
use Rattle.pp_values.specs.declared.fault.Fault.{Fault}
use Rattle.pp_values.specs.declared.place.Place.{Place}
use Rattle.pp_values.specs.Datum.{Datum, flag, int, list, hash, kind, members_of, pairs_of}
use Rattle.pp_values.specs.Equal.{equal}
use Rattle.pp_values.specs.Order.{order}
use Rattle.pp_ops.specs.declared.op.Op.{Op}
use Rattle.pp_ops.specs.declared.op.Op.TheVariants as op
use Rattle.pp_ops.specs.declared.refusal.Refusal.{Refusal}
use Rattle.pp_ops.specs.declared.refusal.Refusal.TheVariants.{Operand}
use Rattle.pp_ops.specs.Accesses.{accessed}
use Rattle.pp_ops.specs.Hashes.{merged, named, without_keys}
use Rattle.pp_ops.specs.Lists.{as_list, as_hash, as_members, taken_off, without}
use Rattle.pp_ops.specs.Members.{is_in}
use Rattle.pp_ops.specs.Numbers.{in_range, of_integers, product, divided, modulo, negated}
use Rattle.pp_ops.specs.Symbols.{refusal_fault}

-- `+`: integers; two lists joined; the pairs of a hash as lists of two behind a list; any other value behind a list;
-- two hashes merged
abbrev pub sum : Datum → Datum → Result Datum Refusal
sum (int a) (int b) = in_range (a +ℤ b)
sum (list ds) d = Ok (as_list (members_of ds ++ as_members d))
sum (hash es) (hash fs) = Ok (as_hash (merged (pairs_of es) (pairs_of fs)))
sum a b = Err Operand

-- `-`: integers; members off a list; keys off a hash
abbrev pub difference : Datum → Datum → Result Datum Refusal
difference (int a) (int b) = in_range (a -ℤ b)
difference (list ds) d = Ok (as_list (without (taken_off d) (members_of ds)))
difference (hash es) d = Ok (as_hash (without_keys (named d) (pairs_of es)))
difference a b = Err Operand

-- `<<`: one member behind a list
abbrev pub appended : Datum → Datum → Result Datum Refusal
appended (list ds) d = Ok (as_list (members_of ds ++ d ∷ []))
appended a b = Err Operand

-- what the order tells, if there is one
abbrev pub tested : (Ordering → Bool) → Option Ordering → Result Datum Refusal
tested test None = Err Operand
tested test (Some o) = Ok (flag (test o))

abbrev pub compared : (Ordering → Bool) → Datum → Datum → Result Datum Refusal
compared test a b = tested test (order a b)

abbrev pub computed : Op → Datum → Datum → Result Datum Refusal
computed op.Add a b = sum a b
computed op.Subtract a b = difference a b
computed op.Multiply a b = of_integers product a b
computed op.Divide a b = of_integers divided a b
computed op.Modulo a b = of_integers modulo a b
computed op.Append a b = appended a b
computed op.Equal a b = Ok (flag (equal a b))
computed op.NotEqual a b = Ok (flag (not (equal a b)))
computed op.Less a b = compared is_lt a b
computed op.Greater a b = compared is_gt a b
computed op.AtMost a b = compared is_le a b
computed op.AtLeast a b = compared is_ge a b
computed op.Member a b = Ok (flag (is_in a b))
computed op.Negate a b = negated a
computed op.Access a b = accessed a b

-- a refusal as a fault at this place
abbrev pub at_place : Op → Place → Result Datum Refusal → Result Datum Fault
at_place o place (Ok d) = Ok d
at_place o place (Err r) = Err (refusal_fault o place r)

-- the value of an operator, or its fault
abbrev pub applied : Op → Datum → Datum → Place → Result Datum Fault
applied o a b place = at_place o place (computed o a b)

-- `in` and access with a data type on the left, which ask what types accept, or what a type's arguments are
abbrev pub needs_types : Op → Datum → Bool
needs_types op.Member (kind s) = true
needs_types op.Access (kind s) = true
needs_types o d = false
