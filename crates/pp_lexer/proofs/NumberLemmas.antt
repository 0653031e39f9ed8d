-- How the value of a number goes on by one digit.
use Rattle.std.proofs.Common.{◌≡◌, ℕ, pos, ◌+◌, ◌-◌, ◌<◌, ◌≤◌, ℤ, Bool, true, false, cond, List, length, take, drop, get_or, refl, ◌∙◌, Option, Some, None}
use Rattle.pp_lexer.specs.Digits.{with_digit, value_from, number_value, number_said, is_fraction}
use Rattle.pp_lexer.specs.Fronts.{IsPiece, front}
use Rattle.pp_lexer.specs.declared.front.Found.TheVariants as found
use Rattle.pp_lexer.proofs.WordLemmas.{drop_at}

pub value_goes : (base n m at : ℕ) (z : List ℕ) → at < length z → with_digit base n (get_or z at 0) ≡ Some m → value_from base n (drop at z) ≡ value_from base m (drop (at + 1) z)
value_goes base n m at z h goes = rw (drop_at z at h, goes) refl

pub value_stops : (base n at : ℕ) (z : List ℕ) → at < length z → with_digit base n (get_or z at 0) ≡ None → value_from base n (drop at z) ≡ None
value_stops base n at z h stops = rw (drop_at z at h, stops) refl

-- a number that is found is the one that its spelling says
value_of : (c : Bool) (x : Option ℕ) (n : ℕ) → cond c None x ≡ Some n → x ≡ Some n
value_of true x n is = absurd (cc)
value_of false x n is = is

said_is : (z : List ℕ) (n : ℕ) → number_value z ≡ Some n → number_said z ≡ pos n
said_is z n is = rw (is) refl

pub number_piece : (z : List ℕ) (len n : ℕ) (m : ℤ) → 0 < len → len ≤ length z → get_or z (len - 1) 0 < 128
    → cond (is_fraction (drop len z)) None (number_value (take len z)) ≡ Some n → m ≡ pos n → IsPiece z (front (found.Number m) len)
number_piece z len n m some within ascii is made = record {
  moves = some;
  within = within;
  last = λ _. ascii;
  ends = record {
    quotes = λ q. absurd (cc);
    dollar = λ k q. absurd (cc);
    number = λ k same. let e : pos n ≡ k = cc in said_is (take len z) n (value_of (is_fraction (drop len z)) (number_value (take len z)) n is) ∙ e;
  };
}
