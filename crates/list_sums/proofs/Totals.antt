-- A sum over a list is the term at one place and the others, which stay when that place changes.
use Rattle.std.proofs.Common.{◌≡◌, ℕ, zero, suc, ◌+◌, ◌<◌, ◌≤◌, ◌≢◌, List, [], ◌∷◌, ◌++◌, set, refl, sym, ap, arith}
use mathlib.Core.Logic.{dite}
use mathlib.Core.Option.{some, some-injective, some-ne-none}
use native.Mathlib.Decide.{dec_le}
use lib.ListN.{get_elem?}
use Rattle.list_sums.specs.Counts.{total}

-- the sum of all terms but the one at the place
abbrev others : {A : Type 0} → (A → ℕ) → List A → ℕ → ℕ
others g [] j = 0
others g (x ∷ xs) zero = total g xs
others g (x ∷ xs) (suc j) = g x + others g xs j

module _ {A : Type 0} (g : A → ℕ) where
  pub total-append : (l m : List A) → total g (l ++ m) ≡ total g l + total g m
  total-append [] m = omega arith
  total-append (x ∷ xs) m = let rest = total-append xs m in omega (arith, rest)

  total-at : (l : List A) (j : ℕ) (v : A) → get_elem? l j ≡ some v → total g l ≡ g v + others g l j
  total-at [] j v at = absurd (some-ne-none v (sym at))
  total-at (x ∷ xs) zero v at = ap (λ (y : A). g y + total g xs) (some-injective x v at)
  total-at (x ∷ xs) (suc j) v at = let rest = total-at xs j v at in omega (arith, rest)

  set-at : (l : List A) (j : ℕ) (v w : A) → get_elem? l j ≡ some v → get_elem? (set l j w) j ≡ some w
  set-at [] j v w at = absurd (some-ne-none v (sym at))
  set-at (x ∷ xs) zero v w at = refl
  set-at (x ∷ xs) (suc j) v w at = set-at xs j v w at

  others-set : (l : List A) (j : ℕ) (w : A) → others g (set l j w) j ≡ others g l j
  others-set [] j w = refl
  others-set (x ∷ xs) zero w = refl
  others-set (x ∷ xs) (suc j) w = ap (λ (n : ℕ). g x + n) (others-set xs j w)

  -- a sum trades the old term for the new one
  pub total-set : (l : List A) (j : ℕ) (v w : A) → get_elem? l j ≡ some v → total g (set l j w) + g v ≡ total g l + g w
  total-set l j v w at =
      let before = total-at l j v at in let after = total-at (set l j w) j w (set-at l j v w at) in
      omega (arith, before, after, others-set l j w)

  pub term_le : (l : List A) (j : ℕ) (v : A) → get_elem? l j ≡ some v → g v ≤ total g l
  term_le l j v at = let all = total-at l j v at in omega (arith, all)

  other_le : (l : List A) (j k : ℕ) (u : A) → k ≢ j → get_elem? l k ≡ some u → g u ≤ others g l j
  other_le [] j k u apart at = absurd (some-ne-none u (sym at))
  other_le (x ∷ xs) zero zero u apart at = absurd (apart refl)
  other_le (x ∷ xs) zero (suc k) u apart at = term_le xs k u at
  other_le (x ∷ xs) (suc j) zero u apart at = let here = ap g (some-injective x u at) in omega (arith, here)
  other_le (x ∷ xs) (suc j) (suc k) u apart at = let rest = other_le xs j k u (λ is. apart (ap suc is)) at in omega (arith, rest)

  -- the terms at two places are within the sum
  pub terms_le : (l : List A) (j k : ℕ) (v u : A) → k ≢ j → get_elem? l j ≡ some v → get_elem? l k ≡ some u → g v + g u ≤ total g l
  terms_le l j k v u apart here there =
      let all = total-at l j v here in let other = other_le l j k u apart there in omega (arith, all, other)

  -- a sum above 0 has a term above 0
  pub someone : (l : List A) → 0 < total g l → (i : ℕ) × (u : A) × (get_elem? l i ≡ some u) × (0 < g u)
  someone [] some_ = absurd (omega (arith, some_))
  someone (x ∷ xs) some_ =
      dite (dec_le 1 (g x)) (λ first. (0, x, refl, first))
      (λ none_. let rest = someone xs (omega (arith, some_)) in (suc rest.0, rest.1, rest.2, rest.3))

module _ {A : Type 0} (f g : A → ℕ) where
  -- a sum of smaller terms is no larger
  pub totals_le : (l : List A) → ((i : ℕ) (u : A) → get_elem? l i ≡ some u → f u ≤ g u) → total f l ≤ total g l
  totals_le [] each = omega arith
  totals_le (x ∷ xs) each =
      let first = each 0 x refl in let rest = totals_le xs (λ i u at. each (suc i) u at) in omega (arith, first, rest)

  others_le : (l : List A) (j : ℕ) → ((i : ℕ) (u : A) → get_elem? l i ≡ some u → f u ≤ g u) → others f l j ≤ others g l j
  others_le [] j each = omega arith
  others_le (x ∷ xs) zero each = totals_le xs (λ i u at. each (suc i) u at)
  others_le (x ∷ xs) (suc j) each =
      let first = each 0 x refl in let rest = others_le xs j (λ i u at. each (suc i) u at) in omega (arith, first, rest)

  -- two such sums are as far apart as their terms at any one place, or farther
  pub gap : (l : List A) (j : ℕ) (v : A) → get_elem? l j ≡ some v
      → ((i : ℕ) (u : A) → get_elem? l i ≡ some u → f u ≤ g u) → total f l + g v ≤ total g l + f v
  gap l j v at each =
      let small = total-at f l j v at in let large = total-at g l j v at in
      omega (arith, small, large, others_le l j each)
