-- What digits say.
use Rattle.std.specs.Prelude.{ℕ, ℤ, ◌+◌, ◌*◌, pos, Bool, ◌&&◌, if◌then◌else◌, ◌==◌, nat_lt, nat_le, List, [], ◌∷◌}
use Rattle.std.specs.Prelude.{length, drop, slice_index, Option, Some, None, option_and_then}
use Rattle.std.specs.Char.{is_ascii_digit, digit_value}

-- the greatest number, 2^63 - 1
abbrev pub greatest : ℕ
greatest = 9223372036854775807

-- A number with one more digit. There is none where the byte is no digit of this base, or the number is too great. More
-- digits make no number smaller, so this refuses the numbers that are too great as a whole.
abbrev pub with_digit : ℕ → ℕ → ℕ → Option ℕ
with_digit base n b =
    let more = n * base + digit_value b in
    if nat_lt (digit_value b) base && nat_le more greatest then Some more else None

abbrev pub value_from : ℕ → ℕ → List ℕ → Option ℕ
value_from base n [] = Some n
value_from base n (b ∷ z) = option_and_then (λ m. value_from base m z) (with_digit base n b)

-- what one or more digits say
abbrev pub digits_value : ℕ → List ℕ → Option ℕ
digits_value base z = if length z == 0 then None else value_from base 0 z

-- `0x` and hexadecimal digits, `0` and octal digits, or a decimal number, which is `0` or does not begin with it
unfoldable pub number_value : List ℕ → Option ℕ
number_value z =
    if slice_index z 0 == 48 && nat_lt 1 (length z)
    then (if slice_index z 1 == 120 then digits_value 16 (drop 2 z) else digits_value 8 (drop 1 z))
    else digits_value 10 z

-- the number that is spelled so, or 0 where none is
abbrev pub value_or_zero : Option ℕ → ℤ
value_or_zero None = pos 0
value_or_zero (Some n) = pos n

abbrev pub number_said : List ℕ → ℤ
number_said z = value_or_zero (number_value z)

-- `.` and a digit make a number a fraction, which the language lacks
abbrev pub is_fraction : List ℕ → Bool
is_fraction z = slice_index z 0 == 46 && is_ascii_digit (slice_index z 1)
