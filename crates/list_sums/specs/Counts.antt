-- Counting: sums over lists, and how often a number stands in one.
use Rattle.std.specs.Prelude.{ℕ, ◌+◌, ◌≤◌, Bool, cond, nat_eq, nat_lt, List, [], ◌∷◌}

abbrev pub total : {A : Type 0} → (A → ℕ) → List A → ℕ
total f [] = 0
total f (x ∷ xs) = f x + total f xs

-- 1 for true, else 0
abbrev pub bit : Bool → ℕ
bit b = cond b 1 0

-- 1 where the two are one number, else 0
abbrev pub same : ℕ → ℕ → ℕ
same k x = bit (nat_eq x k)

-- 1 where the number stands below the limit, else 0
abbrev pub below : ℕ → ℕ → ℕ
below limit k = bit (nat_lt k limit)

-- how often the number stands in the list
abbrev pub times : ℕ → List ℕ → ℕ
times k = total (same k)

-- no number stands twice in the list
abbrev pub Once : List ℕ → Type 0
Once l = (k : ℕ) → times k l ≤ 1
