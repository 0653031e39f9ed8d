-- Functions of integers, which have 64 bits.
use Rattle.std.specs.Prelude.{ℕ, ◌^◌, nat_lt, if◌then◌else◌, unsigned_abs, Result, Ok, Err, List, [], ◌∷◌, ℤ, pos}
use Rattle.std.specs.Int.{int_min, int_max}
use Rattle.pp_values.specs.Datum.{Datum, int}
use Rattle.pp_funcs.specs.declared.refusal.Refusal.{Refusal}
use Rattle.pp_funcs.specs.declared.refusal.Refusal.TheVariants.{Arguments, Range}

-- a number that is not below 0, where it has 64 bits
abbrev pub natural : ℕ → Result Datum Refusal
natural n = if nat_lt n (2 ^ 63) then Ok (int (pos n)) else Err Range

-- how far an integer is from 0
abbrev pub absolute : Datum → Result Datum Refusal
absolute (int z) = natural (unsigned_abs z)
absolute d = Err Arguments

-- the one of all these integers that is left by the choice between two
abbrev pub chosen : (ℤ → ℤ → ℤ) → ℤ → List Datum → Result Datum Refusal
chosen choice z [] = Ok (int z)
chosen choice z (int y ∷ ds) = chosen choice (choice z y) ds
chosen choice z ds = Err Arguments

abbrev pub chosen_of : (ℤ → ℤ → ℤ) → List Datum → Result Datum Refusal
chosen_of choice (int z ∷ ds) = chosen choice z ds
chosen_of choice arguments = Err Arguments

-- the least and the greatest of one or more integers
abbrev pub least : List Datum → Result Datum Refusal
least arguments = chosen_of int_min arguments

abbrev pub greatest : List Datum → Result Datum Refusal
greatest arguments = chosen_of int_max arguments
