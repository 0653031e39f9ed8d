-- The value of a number, digit by digit, is its value as a whole where that is not too great.
use Rattle.std.proofs.Common.{◌≡◌, ℕ, ◌+◌, ◌*◌, ◌<◌, ◌≤◌, Bool, true, false, ◌&&◌, nat_lt, nat_le, if◌then◌else◌, List, [], ◌∷◌, Option, Some, None, refl, arith}
use Rattle.std.proofs.lemmas.Bool.Decides.{nat_tests}
use Rattle.std.proofs.Math.Nat.{le-mul_of_pos_right}
use Rattle.std.specs.Char.{digit_value}
use Rattle.std.specs.List.{list_all}
use Rattle.pp_lexer.specs.Digits.{greatest, value_from}

-- the number that digits say behind a number, without a bound
abbrev pub whole_from : ℕ → ℕ → List ℕ → ℕ
whole_from base n [] = n
whole_from base n (b ∷ z) = whole_from base (n * base + digit_value b) z

abbrev pub all_digits : ℕ → List ℕ → Bool
all_digits base z = list_all (λ b. nat_lt (digit_value b) base) z

-- more digits make no number smaller
grows : (base n d : ℕ) → 1 ≤ base → n ≤ n * base + d
grows base n d some = let times : n ≤ n * base = le-mul_of_pos_right n (omega arith) in omega (arith, times)

whole_grows : (base n : ℕ) (z : List ℕ) → 1 ≤ base → n ≤ whole_from base n z
whole_grows base n [] some = omega arith
whole_grows base n (b ∷ z) some = omega (arith, grows base n (digit_value b) some, whole_grows base (n * base + digit_value b) z some)

abbrev pub bounded : Bool → ℕ → Option ℕ
bounded digits n = if digits && nat_le n greatest then Some n else None

-- by whether the first byte is a digit, whether the number is too great with it, and whether the other bytes are digits
one_digit : (p q a : Bool) (base n b : ℕ) (z : List ℕ) → nat_lt (digit_value b) base ≡ p → nat_le (n * base + digit_value b) greatest ≡ q → all_digits base z ≡ a → 1 ≤ base → (n * base + digit_value b ≤ greatest → value_from base (n * base + digit_value b) z ≡ bounded (all_digits base z) (whole_from base (n * base + digit_value b) z)) → value_from base n (b ∷ z) ≡ bounded (all_digits base (b ∷ z)) (whole_from base n (b ∷ z))
one_digit false q a base n b z is fits others some further = rw is refl
one_digit true true a base n b z is fits others some further = let h : n * base + digit_value b ≤ greatest = grind (arith, nat_tests, fits) in rw (is, fits) (further h)
one_digit true false false base n b z is fits others some further = rw (is, fits, others) refl
one_digit true false true base n b z is fits others some further =
    let more = n * base + digit_value b in
    let whole = whole_from base more z in
    let h : greatest < more = grind (arith, nat_tests, fits) in
    let g : more ≤ whole = whole_grows base more z some in
    let t : nat_le whole greatest ≡ false = too_great more whole h g in
    rw (is, fits, others, t) refl
  where
    too_great : (more whole : ℕ) → greatest < more → more ≤ whole → nat_le whole greatest ≡ false
    too_great more whole h g = grind (arith, nat_tests)

pub value_is_whole : (base n : ℕ) (z : List ℕ) → 1 ≤ base → n ≤ greatest → value_from base n z ≡ bounded (all_digits base z) (whole_from base n z)
value_is_whole base n [] some fits = let t : nat_le n greatest ≡ true = grind (arith, nat_tests) in rw t refl
value_is_whole base n (b ∷ z) some fits = one_digit _ _ _ base n b z refl refl refl some (λ h. value_is_whole base (n * base + digit_value b) z some h)
