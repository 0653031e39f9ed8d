-- Numbers among words: decimal digits without a sign and without a leading zero.
use Rattle.std.specs.Prelude.{ℕ, ◌+◌, ◌-◌, ◌*◌, Bool, ◌&&◌, ◌==◌, nat_le, if◌then◌else◌, List, [], ◌∷◌, Option, Some}
use Rattle.std.specs.Prelude.{None, option_and_then}
use Rattle.std.specs.Char.{is_ascii_digit}

-- A number with one more digit, where it is at most this. More digits make no number smaller, so this refuses the
-- numbers that are too great as a whole.
abbrev pub with_digit : ℕ → ℕ → ℕ → Option ℕ
with_digit most n b =
    if is_ascii_digit b && nat_le (n * 10 + (b - 48)) most then Some (n * 10 + (b - 48)) else None

abbrev pub digits_from : ℕ → ℕ → List ℕ → Option ℕ
digits_from most n [] = Some n
digits_from most n (b ∷ bs) = option_and_then (λ m. digits_from most m bs) (with_digit most n b)

-- what one or more digits say
abbrev pub digits_up_to : ℕ → List ℕ → Option ℕ
digits_up_to most [] = None
digits_up_to most (b ∷ bs) = digits_from most 0 (b ∷ bs)

-- no number of several digits begins with `0`
abbrev pub number_of : ℕ → List ℕ → Option ℕ
number_of most [] = None
number_of most (b ∷ []) = digits_up_to most (b ∷ [])
number_of most (b ∷ c ∷ bs) = if b == 48 then None else digits_up_to most (b ∷ c ∷ bs)

abbrev pub at_least : ℕ → ℕ → Option ℕ
at_least least n = if nat_le least n then Some n else None

-- the number that the word is, where it is within these bounds
abbrev pub number_within : ℕ → ℕ → List ℕ → Option ℕ
number_within least most word = option_and_then (at_least least) (number_of most word)
