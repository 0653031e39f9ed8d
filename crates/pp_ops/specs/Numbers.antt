-- Integers of 64 bits: a result beyond them is a refusal, division rounds down, and `%` has the divisor's sign.
use Rattle.std.specs.Prelude.{ℕ, zero, suc, ◌-◌, ◌/◌, ◌%◌, ◌^◌, nat_lt, Bool, true, false, if◌then◌else◌, Option, None}
use Rattle.std.specs.Prelude.{Some, Result, Ok, Err, ℤ, pos, negsuc, neg_ℤ, ◌*ℤ◌}
use Rattle.pp_values.specs.Datum.{Datum, int}
use Rattle.pp_ops.specs.declared.refusal.Refusal.{Refusal}
use Rattle.pp_ops.specs.declared.refusal.Refusal.TheVariants.{Operand, Range, Zero}

abbrev pub fits : ℤ → Bool
fits (pos n) = nat_lt n (2 ^ 63)
fits (negsuc n) = nat_lt n (2 ^ 63)

-- the integer, where it has 64 bits
abbrev pub in_range : ℤ → Result Datum Refusal
in_range z = if fits z then Ok (int z) else Err Range

-- what a test of the range told
abbrev pub ranged : Option ℤ → Result Datum Refusal
ranged None = Err Range
ranged (Some z) = Ok (int z)

-- the greatest integer whose product with the divisor passes the dividend in neither direction: it is rounded down.
-- `negsuc n` is the integer -1 - n
abbrev pub quotient : ℤ → ℤ → ℤ
quotient (pos a) (pos b) = pos (a / b)
quotient (negsuc a) (pos b) = negsuc (a / b)
quotient (pos zero) (negsuc b) = pos 0
quotient (pos (suc a)) (negsuc b) = negsuc (a / suc b)
quotient (negsuc a) (negsuc b) = pos (suc a / suc b)

-- how far what is left is from 0
abbrev pub distance : ℤ → ℤ → ℕ
distance (pos a) (pos b) = a % b
distance (negsuc a) (pos b) = b - 1 - a % b
distance (pos zero) (negsuc b) = 0
distance (pos (suc a)) (negsuc b) = b - a % suc b
distance (negsuc a) (negsuc b) = suc a % suc b

-- what is left: 0, or of the divisor's sign and nearer to 0 than it
abbrev pub remainder : ℤ → ℤ → ℤ
remainder a (pos b) = pos (distance a (pos b))
remainder a (negsuc b) = neg_ℤ (pos (distance a (negsuc b)))

abbrev pub is_zero : ℤ → Bool
is_zero (pos zero) = true
is_zero z = false

abbrev pub divided : ℤ → ℤ → Result Datum Refusal
divided a b = if is_zero b then Err Zero else in_range (quotient a b)

-- the remainder is an integer of 64 bits wherever the divisor is
abbrev pub modulo : ℤ → ℤ → Result Datum Refusal
modulo a b = if is_zero b then Err Zero else Ok (int (remainder a b))

-- an operator of two integers
abbrev pub of_integers : (ℤ → ℤ → Result Datum Refusal) → Datum → Datum → Result Datum Refusal
of_integers f (int a) (int b) = f a b
of_integers f a b = Err Operand

abbrev pub product : ℤ → ℤ → Result Datum Refusal
product a b = in_range (a *ℤ b)

abbrev pub negated : Datum → Result Datum Refusal
negated (int a) = in_range (neg_ℤ a)
negated d = Err Operand
