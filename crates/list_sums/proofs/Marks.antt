-- What stands below a limit, and what stands in a list, each marked by 1.
use Rattle.std.proofs.Common.{◌≡◌, ℕ, ◌+◌, ◌<◌, ◌≤◌, ◌≢◌, ◌⊎◌, inl, inr, ⊎_elim, List, [], ◌∷◌, length, slice_get, Some, sym, ap, arith, eq-eqb, ne_eqb, lt-ltb, le-ltb}
use mathlib.Core.Logic.{dite}
use native.Mathlib.Decide.{ℕ_discrete, dec_le}
use Rattle.list_sums.specs.Counts.{bit, same, below, times}

pub same_yes : (k x : ℕ) → k ≡ x → same k x ≡ 1
same_yes k x is = ap bit (eq-eqb x k (sym is))

pub same_no : (k x : ℕ) → k ≢ x → same k x ≡ 0
same_no k x apart = ap bit (ne_eqb x k (λ is. apart (sym is)))

same_is : (k x : ℕ) → ((k ≡ x) × (same k x ≡ 1)) ⊎ (same k x ≡ 0)
same_is k x = dite (ℕ_discrete k x) (λ is. inl (is, same_yes k x is)) (λ apart. inr (same_no k x apart))

-- a number is below the limit and has the mark, or is not and has none
pub below_is : (n k : ℕ) → ((k < n) × (below n k ≡ 1)) ⊎ ((n ≤ k) × (below n k ≡ 0))
below_is n k =
    dite (dec_le n k) (λ past. inr (past, ap bit (le-ltb k n past)))
    (λ not_past. let inside : k < n = omega arith in inl (inside, ap bit (lt-ltb k n inside)))

pub below_yes : (n k : ℕ) → k < n → below n k ≡ 1
below_yes n k inside = ⊎_elim (λ t. t.1) (λ t. absurd (omega (arith, inside, t.0))) (below_is n k)

pub below_no : (n k : ℕ) → n ≤ k → below n k ≡ 0
below_no n k past = ⊎_elim (λ t. absurd (omega (arith, past, t.0))) (λ t. t.1) (below_is n k)

-- a limit that is higher by one marks one number more
pub below_next : (n k : ℕ) → below (n + 1) k ≡ below n k + same k n
below_next n k =
    ⊎_elim
    (λ low. let apart = same_no k n (λ is. omega (arith, is, low.0)) in let still = below_yes (n + 1) k (omega (arith, low.0)) in omega (arith, low.1, apart, still))
    (λ high. dite (ℕ_discrete k n)
    (λ is. let mark = same_yes k n is in let now = below_yes (n + 1) k (omega (arith, is)) in omega (arith, high.1, mark, now))
    (λ apart. let mark = same_no k n apart in let still = below_no (n + 1) k (omega (arith, high.0)) in omega (arith, high.1, mark, still)))
    (below_is n k)

pub below_le : (n k : ℕ) → below n k ≤ 1
below_le n k = ⊎_elim (λ t. omega (arith, t.1)) (λ t. omega (arith, t.1)) (below_is n k)

-- what has the mark is below the limit
pub below_lt : (n k : ℕ) → 0 < below n k → k < n
below_lt n k marked = ⊎_elim (λ t. t.0) (λ t. absurd (omega (arith, marked, t.1))) (below_is n k)

pub times_le : (a : ℕ) (l : List ℕ) → times a l ≤ length l
times_le a [] = omega arith
times_le a (x ∷ xs) =
    let rest = times_le a xs in ⊎_elim (λ t. omega (arith, rest, t.1)) (λ none_. omega (arith, rest, none_)) (same_is a x)

-- the first number stands in the list
pub first_in : (a : ℕ) (l : List ℕ) → slice_get l 0 ≡ Some a → 0 < times a l
first_in a [] first = absurd cc
first_in a (x ∷ xs) first = let is : a ≡ x = cc in let mark = same_yes a x is in omega (arith, mark)

pub first_some : (a : ℕ) (l : List ℕ) → slice_get l 0 ≡ Some a → 0 < length l
first_some a l first = let stands = first_in a l first in let few = times_le a l in omega (arith, stands, few)
