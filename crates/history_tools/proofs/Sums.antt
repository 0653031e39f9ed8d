-- Sums over lists in which each number stands as often, and sums over the places of a list.
use Rattle.std.proofs.Common.{◌≡◌, ◌⊎◌, inl, inr, ℕ, zero, suc, ◌+◌, ◌≤◌, ⊎_elim, List, [], ◌∷◌, ◌++◌, length, slice_get, Option, Some, None, refl, sym, ap, ◌∙◌, arith, append_assoc, length-append}
use Rattle.list_sums.specs.Counts.{total, same, times, below}
use Rattle.list_sums.proofs.Totals.{total-append}
use Rattle.list_sums.proofs.Marks.{same_yes, same_no, below_next}
use mathlib.Core.Logic.{dite}
use native.Mathlib.Decide.{ℕ_discrete}

pub same_is : (k x : ℕ) → ((k ≡ x) × (same k x ≡ 1)) ⊎ (same k x ≡ 0)
same_is k x = dite (ℕ_discrete k x) (λ is. inl (is, same_yes k x is)) (λ apart. inr (same_no k x apart))

-- a number that stands in a list parts it
parted : (x : ℕ) (ys : List ℕ) → 1 ≤ times x ys → (a : List ℕ) × (b : List ℕ) × (ys ≡ a ++ x ∷ b)
parted x [] some = absurd (omega (arith, some))
parted x (y ∷ ys) some =
    ⊎_elim (λ here. ([], ys, ap (λ z. z ∷ ys) (sym here.0)))
    (λ none. let rest = parted x ys (omega (arith, some, none)) in (y ∷ rest.0, rest.1, ap (λ l. y ∷ l) rest.2))
    (same_is x y)

-- lists in which each number stands as often have one sum, whatever is summed
pub same_totals : (f : ℕ → ℕ) (xs ys : List ℕ) → ((k : ℕ) → times k xs ≡ times k ys) → total f xs ≡ total f ys
same_totals f [] [] alike = refl
same_totals f [] (y ∷ ys) alike = let here = alike y in let one = same_yes y y refl in absurd (omega (arith, here, one))
same_totals f (x ∷ xs) ys alike =
    let one = same_yes x x refl in let here = alike x in
    let parts = parted x ys (omega (arith, one, here)) in
    let whole = total-append f parts.0 (x ∷ parts.1) in let less = total-append f parts.0 parts.1 in
    let is : total f ys ≡ total f (parts.0 ++ x ∷ parts.1) = ap (total f) parts.2 in
    let rest = same_totals f xs (parts.0 ++ parts.1) (λ k.
    let all = alike k in let split : times k ys ≡ times k (parts.0 ++ x ∷ parts.1) = ap (times k) parts.2 in
    let sum = total-append (same k) parts.0 (x ∷ parts.1) in let short = total-append (same k) parts.0 parts.1 in
    omega (arith, all, split, sum, short)) in
    omega (arith, whole, less, is, rest)

-- so many numbers from this one on
abbrev pub range : ℕ → ℕ → List ℕ
range low zero = []
range low (suc n) = low ∷ range (low + 1) n

pub times_range : (k low n : ℕ) → times k (range low n) + below low k ≡ below (low + n) k
times_range k low zero =
    let is : below low k ≡ below (low + 0) k = ap (λ m. below m k) (omega arith) in omega (arith, is)
times_range k low (suc n) =
    let rest = times_range k (low + 1) n in let next = below_next low k in
    let is : below (low + 1 + n) k ≡ below (low + suc n) k = ap (λ m. below m k) (omega arith) in
    omega (arith, rest, next, is)

pub length_range : (low n : ℕ) → length (range low n) ≡ n
length_range low zero = refl
length_range low (suc n) = let rest = length_range (low + 1) n in omega (arith, rest)

pub total_ones : (xs : List ℕ) → total (λ _. 1) xs ≡ length xs
total_ones [] = refl
total_ones (x ∷ xs) = let rest = total_ones xs in omega (arith, rest)

module _ {A : Type 0} where
  abbrev pub weigh : (A → ℕ) → Option A → ℕ
  weigh f None = 0
  weigh f (Some x) = f x

  pub get_behind : (xs ys : List A) (i k : ℕ) → k ≡ length xs + i → slice_get (xs ++ ys) k ≡ slice_get ys i
  get_behind [] ys i k is = let same : k ≡ i = omega (arith, is) in ap (slice_get ys) same
  get_behind (x ∷ xs) ys i zero is = absurd (omega (arith, is))
  get_behind (x ∷ xs) ys i (suc k) is = get_behind xs ys i k (omega (arith, is))

  -- a sum over entries is one over their places
  pub total_places : (f : A → ℕ) (h xs ys : List A) → xs ++ ys ≡ h →
      total f ys ≡ total (λ k. weigh f (slice_get h k)) (range (length xs) (length ys))
  total_places f h xs [] is = refl
  total_places f h xs (y ∷ ys) is =
      let at : slice_get h (length xs) ≡ Some y =
      ap (λ l. slice_get l (length xs)) (sym is) ∙ get_behind xs (y ∷ ys) 0 (length xs) (omega arith) in
      let here : weigh f (slice_get h (length xs)) ≡ f y = ap (weigh f) at in
      let count : length (xs ++ y ∷ []) ≡ length xs + 1 = length-append xs (y ∷ []) in
      let rest = total_places f h (xs ++ y ∷ []) ys (append_assoc xs (y ∷ []) ys ∙ is) in
      let moved : total (λ k. weigh f (slice_get h k)) (range (length (xs ++ y ∷ [])) (length ys))
      ≡ total (λ k. weigh f (slice_get h k)) (range (length xs + 1) (length ys)) =
      ap (λ n. total (λ k. weigh f (slice_get h k)) (range n (length ys))) count in
      omega (arith, here, rest, moved)
