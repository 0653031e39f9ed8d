-- Pairs of indexes below a count, one after another.
use Rattle.std.proofs.Common.{ℕ, ◌+◌, ◌<◌, ◌≤◌, List, length, map, get_or, sym, subst, arith, below_more}
use Rattle.std.proofs.lemmas.List.{get_or_default}
use lib.ListN.{get_or-map, length-map}
use Rattle.rel_graph.specs.Pairs.{AllBelow}

abbrev pub IsBelow : ℕ → ℕ × ℕ → Type 0
IsBelow count p = (p.0 < count) × (p.1 < count)

module _ {X : Type 0} (pair : X → ℕ × ℕ) (count : ℕ) (xs : List X) where
  pub within_more : (d : X) → (i : ℕ) → ((k : ℕ) → k < i → IsBelow count (get_or (map pair xs) k (pair d))) →
      IsBelow count (pair (get_or xs i d)) →
      (k : ℕ) → k < i + 1 → IsBelow count (get_or (map pair xs) k (pair d))
  within_more d i before here = below_more (λ k. IsBelow count (get_or (map pair xs) k (pair d))) i before
      (subst (λ p. IsBelow count p) (sym (get_or-map pair xs i d)) here)

  pub within_all : (e : ℕ × ℕ) (i : ℕ) → ((k : ℕ) → k < i → IsBelow count (get_or (map pair xs) k e)) →
      length xs ≤ i → AllBelow (map pair xs) count
  within_all e i all end k d h =
      let n = length-map xs pair in
      subst (λ p. IsBelow count p) (get_or_default (map pair xs) k e d h) (all k (omega (arith, n, h, end)))

  pub within_not : (d : X) (i : ℕ) → i < length xs → AllBelow (map pair xs) count → IsBelow count (pair (get_or xs i d))
  within_not d i h all =
      let n = length-map xs pair in
      subst (λ p. IsBelow count p) (get_or-map pair xs i d) (all i (pair d) (omega (arith, n, h)))
