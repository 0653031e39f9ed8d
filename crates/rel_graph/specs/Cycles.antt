-- The cycle that is told where there are several.
use Rattle.std.specs.Prelude.{◌≡◌, ◌⊎◌, ℕ, ◌<◌, ◌≤◌, List, [], ◌∷◌, length}
use Rattle.rel_graph.specs.Chains.{Chain, Closure}

-- where two lists of indexes differ first, the left one has the lesser index
abbrev pub NoLater : List ℕ → List ℕ → Type 0
NoLater [] _ = Unit {0}
NoLater (x ∷ xs) [] = ⊥
NoLater (x ∷ xs) (y ∷ ys) = (x < y) ⊎ ((x ≡ y) × NoLater xs ys)

-- A cycle is told by its indexes, the first one not again at its end. It starts at the least index that comes before
-- itself; among the cycles from there it is the shortest, and among these the least by its indexes.
pub record IsCycle (R : ℕ → ℕ → Type 0) (cycle : List ℕ) : Type 0 where
  pub start : ℕ
  pub between : List ℕ
  pub is : cycle ≡ start ∷ between
  pub closes : Chain R start between start
  pub first : (q : ℕ) → Closure R q q → start ≤ q
  pub shortest : (other : List ℕ) → Chain R start other start → length between ≤ length other
  pub least : (other : List ℕ) → Chain R start other start → length other ≡ length between → NoLater between other

-- nothing comes before itself
abbrev pub HasNoCycle : (ℕ → ℕ → Type 0) → Type 0
HasNoCycle R = (q : ℕ) → ¬ (Closure R q q)

-- nothing below n does
abbrev pub NoneBelow : (ℕ → ℕ → Type 0) → ℕ → Type 0
NoneBelow R n = (q : ℕ) → q < n → ¬ (Closure R q q)
