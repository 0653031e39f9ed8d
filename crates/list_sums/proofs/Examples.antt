-- The definitions on small values.
use Rattle.std.proofs.Common.{◌≡◌, ℕ, ◌+◌, [], ◌∷◌, refl, arith}
use Rattle.list_sums.specs.Counts.{total, same, below, times, Once}

sum_of_three : total (λ (n : ℕ). n + n) (1 ∷ 2 ∷ 5 ∷ []) ≡ 16
sum_of_three = refl

is_same : (same 3 3 ≡ 1) × (same 3 4 ≡ 0)
is_same = (refl, refl)

-- the limit itself is not below it
is_below : (below 3 2 ≡ 1) × (below 3 3 ≡ 0)
is_below = (refl, refl)

stands_twice : times 3 (3 ∷ 5 ∷ 3 ∷ []) ≡ 2
stands_twice = refl

-- a list with a number twice is refused, and an empty one is not
twice : Once (3 ∷ 5 ∷ 3 ∷ []) → ⊥
twice once = omega (arith, once 3)

nothing : Once []
nothing k = omega arith
