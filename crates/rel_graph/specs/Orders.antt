-- The order in which resources are listed, where `R a b` says that a stands directly before b.
use Rattle.std.specs.Prelude.{ℕ, ◌<◌, ◌≤◌, List, length, take, slice_index}
use Rattle.std.specs.List.{Contains}
use Rattle.rel_graph.specs.Chains.{Closure}

-- all that come before x are listed
abbrev pub Ready : (ℕ → ℕ → Type 0) → List ℕ → ℕ → Type 0
Ready R listed x = (y : ℕ) → Closure R y x → Contains listed y

-- of the resources that are ready and not listed yet, x has the least index
pub record IsNext (R : ℕ → ℕ → Type 0) (count : ℕ) (listed : List ℕ) (x : ℕ) : Type 0 where
  pub below : x < count
  pub unlisted : ¬ (Contains listed x)
  pub ready : Ready R listed x
  pub least : (other : ℕ) → other < count → ¬ (Contains listed other) → Ready R listed other → x ≤ other

-- at each place stands the next one, and all resources are listed
pub record IsOrder (R : ℕ → ℕ → Type 0) (count : ℕ) (order : List ℕ) : Type 0 where
  pub each : (k : ℕ) → k < length order → IsNext R count (take k order) (slice_index order k)
  pub all : (x : ℕ) → x < count → Contains order x
