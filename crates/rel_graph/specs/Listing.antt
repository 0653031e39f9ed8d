-- What is listed when nothing more is ready.
use Rattle.std.specs.Prelude.{◌⊎◌, ℕ, ◌<◌, Bool, List, length, take, slice_index}
use Rattle.std.specs.List.{Contains}
use Rattle.rel_graph.specs.Marks.{Marked}
use Rattle.rel_graph.specs.Orders.{IsNext}

-- at each place stands the next one; the marks are those of what is left
pub record Listing (R : ℕ → ℕ → Type 0) (count : ℕ) (left : List Bool) (order : List ℕ) : Type 0 where
  pub within : (x : ℕ) → Marked left x → x < count
  pub apart : (x : ℕ) → Marked left x → ¬ (Contains order x)
  pub all : (x : ℕ) → x < count → Marked left x ⊎ Contains order x
  pub closed : (x y : ℕ) → Contains order x → R y x → Contains order y
  pub each : (k : ℕ) → k < length order → IsNext R count (take k order) (slice_index order k)

-- none of what is left has only listed ones directly before it
abbrev pub IsStuck : (ℕ → ℕ → Type 0) → List Bool → Type 0
IsStuck R left = (x : ℕ) → Marked left x → ¬ ((y : ℕ) → Marked left y → ¬ (R y x))
