-- Places past the last member.
use Rattle.std.proofs.Common.{◌≡◌, ℕ, zero, suc, ◌+◌, ◌*◌, ◌-◌, ◌≤◌, ◌<◌, List, [], ◌∷◌, length, Option, None, Bool, true, false, if◌then◌else◌, refl, arith}
use Rattle.std.specs.Char.{is_ascii_digit}
use Rattle.std.specs.Prelude.{option_and_then, slice_get}
use Rattle.hiera_merge.specs.Digging.{place_from}

pub nothing_at : {A : Type 0} (xs : List A) (n : ℕ) → length xs ≤ n → slice_get xs n ≡ None
nothing_at [] n h = refl
nothing_at (x ∷ xs) zero h = absurd (omega (arith, h))
nothing_at (x ∷ xs) (suc n) h = let h' : length xs ≤ n = omega (arith, h) in nothing_at xs n h'

nothing_of : {A : Type 0} (xs : List A) (digit : Bool) (place : Option ℕ) → option_and_then (slice_get xs) place ≡ None
    → option_and_then (slice_get xs) (if digit then place else None) ≡ None
nothing_of xs true place e = e
nothing_of xs false place e = refl

-- whatever digits follow, a place that is past the last member stays so
pub nothing_from : {A : Type 0} (xs : List A) (n : ℕ) (bs : List ℕ) → length xs ≤ n → option_and_then (slice_get xs) (place_from n bs) ≡ None
nothing_from xs n [] h = nothing_at xs n h
nothing_from xs n (b ∷ bs) h =
    let h' : length xs ≤ n * 10 + (b - 48) = omega (arith, h) in
    nothing_of xs (is_ascii_digit b) (place_from (n * 10 + (b - 48)) bs) (nothing_from xs (n * 10 + (b - 48)) bs h')

pub at_end : {A : Type 0} (xs : List A) (n : ℕ) (left : List ℕ) → length left < 1
    → option_and_then (slice_get xs) (place_from n left) ≡ slice_get xs n
at_end xs n [] h = refl
at_end xs n (b ∷ bs) h = absurd (omega (arith, h))
