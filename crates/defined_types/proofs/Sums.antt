-- Sums over numbers, and what looks may have cost so far.
use Rattle.std.proofs.Common.{◌≡◌, ℕ, zero, suc, ◌+◌, ◌<◌, ◌≤◌, cond, List, [], ◌∷◌}
use Rattle.std.proofs.Common.{Option, None, Some, length, map, refl, arith}
use Rattle.std.proofs.lemmas.List.Sums.{sum_by-cons}
use Rattle.std.specs.Prelude.{nat_le, slice_get, sum}
use Rattle.defined_types.specs.declared.watchlist.Told.{Told}

-- of the numbers below one
pub upto : ℕ → (ℕ → ℕ) → ℕ
upto zero f = 0
upto (suc n) f = f 0 + upto n (λ m. f (suc m))

pub upto_le : (n : ℕ) (f g : ℕ → ℕ) → ((m : ℕ) → m < n → f m ≤ g m) → upto n f ≤ upto n g
unfolding upto
upto_le zero f g less = omega arith
upto_le (suc n) f g less =
    let first = less 0 (omega arith) in
    let rest = upto_le n (λ m. f (suc m)) (λ m. g (suc m)) (λ m below. less (suc m) (omega (arith, below))) in
    omega (arith, first, rest)

-- where one of them is more by one, so is the sum
pub upto_one : (n k : ℕ) (f g : ℕ → ℕ) → ((m : ℕ) → m < n → f m ≤ g m) → k < n → suc (f k) ≤ g k →
    suc (upto n f) ≤ upto n g
unfolding upto
upto_one zero k f g less below more = absurd (omega (arith, below))
upto_one (suc n) zero f g less below more =
    let rest = upto_le n (λ m. f (suc m)) (λ m. g (suc m)) (λ m under. less (suc m) (omega (arith, under))) in
    omega (arith, more, rest)
upto_one (suc n) (suc k) f g less below more =
    let first = less 0 (omega arith) in
    let rest = upto_one n k (λ m. f (suc m)) (λ m. g (suc m)) (λ m under. less (suc m) (omega (arith, under)))
    (omega (arith, below)) more in
    omega (arith, first, rest)

pub upto_none : (n : ℕ) (f : ℕ → ℕ) → ((m : ℕ) → f m ≡ 0) → upto n f ≡ 0
unfolding upto
upto_none zero f none = refl
upto_none (suc n) f none =
    let first = none 0 in let rest = upto_none n (λ m. f (suc m)) (λ m. none (suc m)) in omega (arith, first, rest)

-- of a list
pub upto_sum : {A : Type 0} (g : A → ℕ) (xs : List A) (f : ℕ → ℕ) →
    ((m : ℕ) (x : A) → slice_get xs m ≡ Some x → f m ≤ g x) → upto (length xs) f ≤ sum (map g xs)
unfolding upto
upto_sum g [] f less = omega arith
upto_sum g (x ∷ xs) f less =
    let first = less 0 x refl in
    let rest = upto_sum g xs (λ m. f (suc m)) (λ m y at. less (suc m) y at) in
    let both : sum (map g (x ∷ xs)) ≡ g x + sum (map g xs) = sum_by-cons (λ y. y) (g x) (map g xs) in
    omega (arith, first, rest, both)

-- ---- what a collector's looks at a declaration may have cost: so much concerned it at the last one, and once

abbrev pub cell : Option Told → Option ℕ → ℕ
cell None turn = 0
cell (Some t) None = 0
cell (Some t) (Some turn) = t.touched + cond {A = ℕ} (nat_le t.risen turn) 1 0

-- of all collectors and declarations below these numbers
unfoldable pub cost : ℕ → ℕ → List Told → (ℕ → ℕ → Option ℕ) → ℕ
cost cs ns told turns = upto cs (λ c. upto ns (λ n. cell (slice_get told n) (turns c n)))

module _ (told then_told : List Told) (turns then_turns : ℕ → ℕ → Option ℕ) where
  abbrev old : ℕ → ℕ → ℕ
  old c n = cell (slice_get told n) (turns c n)

  abbrev new : ℕ → ℕ → ℕ
  new c n = cell (slice_get then_told n) (then_turns c n)

  pub cost_le : (cs ns : ℕ) → ((c n : ℕ) → old c n ≤ new c n) → cost cs ns told turns ≤ cost cs ns then_told then_turns
  unfolding cost
  cost_le cs ns less =
      upto_le cs (λ c. upto ns (old c)) (λ c. upto ns (new c))
      (λ c under. upto_le ns (old c) (new c) (λ n below. less c n))

  pub cost_one : (cs ns c n : ℕ) → ((d m : ℕ) → old d m ≤ new d m) → c < cs → n < ns → suc (old c n) ≤ new c n →
      suc (cost cs ns told turns) ≤ cost cs ns then_told then_turns
  unfolding cost
  cost_one cs ns c n less there below more =
      upto_one cs c (λ d. upto ns (old d)) (λ d. upto ns (new d))
      (λ d under. upto_le ns (old d) (new d) (λ m lower. less d m))
      there (upto_one ns n (old c) (new c) (λ m lower. less c m) below more)

pub cost_none : (cs ns : ℕ) (turns : ℕ → ℕ → Option ℕ) → cost cs ns [] turns ≡ 0
unfolding cost
cost_none cs ns turns = upto_none cs (λ c. upto ns (λ n. 0)) (λ c. upto_none ns (λ n. 0) (λ n. refl))
