-- How far each index is from a goal.
use Rattle.std.specs.Prelude.{◌≡◌, ℕ, ◌≤◌, List, ◌∷◌, Option, Some, None, length, slice_index_or}
use Rattle.std.specs.List.{Contains}
use Rattle.rel_graph.specs.Chains.{Chain}
use Rattle.rel_graph.specs.Cycles.{NoLater}

abbrev pub distance : List (Option ℕ) → ℕ → Option ℕ
distance numbers x = slice_index_or numbers x None

-- the goal comes not to itself again over fewer than n indexes
abbrev pub IsNear : List (Option ℕ) → ℕ → ℕ → Type 0
IsNear numbers goal n = (k : ℕ) → distance numbers goal ≡ Some k → n ≤ k

-- At each index from which R leads to the goal, how many indexes stand between the two on a shortest chain; at the
-- others none. Those that are further away than the goal is from itself may have none too.
pub record AreDistances (R : ℕ → ℕ → Type 0) (goal : ℕ) (numbers : List (Option ℕ)) : Type 0 where
  pub sound : (x k : ℕ) → distance numbers x ≡ Some k →
      (between : List ℕ) × (length between ≡ k) × Chain R x between goal
  pub least : (x : ℕ) (between : List ℕ) → Chain R x between goal → IsNear numbers goal (length between) →
      (k : ℕ) × (distance numbers x ≡ Some k) × (k ≤ length between)

-- The chain over these indexes from a to the goal has the length n, and of the chains of that length it is the least
-- by its indexes.
pub record IsBest (R : ℕ → ℕ → Type 0) (goal a n : ℕ) (between : List ℕ) : Type 0 where
  pub chain : Chain R a between goal
  pub long : length between ≡ n
  pub least : (other : List ℕ) → Chain R a other goal → length other ≡ n → NoLater between other

-- a stands directly before x, x is so far from the goal, and no lesser index is both
pub record IsStep (R : ℕ → ℕ → Type 0) (numbers : List (Option ℕ)) (a left x : ℕ) : Type 0 where
  pub direct : R a x
  pub far : distance numbers x ≡ Some left
  pub least : (y : ℕ) → R a y → distance numbers y ≡ Some left → x ≤ y

-- the least of these that is so far from the goal
pub record IsLeastOf (found : List ℕ) (numbers : List (Option ℕ)) (left x : ℕ) : Type 0 where
  pub among : Contains found x
  pub far : distance numbers x ≡ Some left
  pub least : (y : ℕ) → Contains found y → distance numbers y ≡ Some left → x ≤ y

-- from the goal on, over the rest, stands the least of the shortest cycles with so many between
abbrev pub IsBestCycle : (ℕ → ℕ → Type 0) → ℕ → ℕ → List ℕ → Type 0
IsBestCycle R goal n cycle = (rest : List ℕ) × (cycle ≡ goal ∷ rest) × IsBest R goal goal n rest
