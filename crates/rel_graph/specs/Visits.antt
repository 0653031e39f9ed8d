-- Resources that are found where containment and relationships lead, each one once.
use Rattle.std.specs.Prelude.{◌≡◌, ◌⊎◌, ℕ, ◌+◌, ◌<◌, Bool, List, length, not}
use Rattle.std.specs.List.{Contains, count_by}
use Rattle.rel_graph.specs.Before.{Belongs}
use Rattle.rel_graph.specs.Chains.{Paired}
use Rattle.rel_graph.specs.Marks.{Marked}
use Rattle.rel_graph.specs.declared.ways.Ways.{Ways}

-- what pairs lead to from one of the first marks has one of the second
abbrev pub IsCrossed : List (ℕ × ℕ) → List Bool → List Bool → Type 0
IsCrossed pairs sources marks = (x y : ℕ) → Paired pairs x y → Marked sources x → Marked marks y

-- all that pairs lead to from marked ones is marked
abbrev pub IsClosed : List (ℕ × ℕ) → List Bool → Type 0
IsClosed pairs marks = IsCrossed pairs marks marks

-- found is what was marked newly, each one once
pub record AreNew (before after : List Bool) (found : List ℕ) : Type 0 where
  pub long : length after ≡ length before
  pub keeps : (x : ℕ) → Marked before x → Marked after x
  pub marked : (x : ℕ) → Contains found x → Marked after x
  pub unmarked : (x : ℕ) → Contains found x → ¬ (Marked before x)
  pub all : (x : ℕ) → Marked after x → Marked before x ⊎ Contains found x
  pub fewer : count_by not after + length found ≡ count_by not before

-- Marks as pairs are followed from a start: all that is led to from what is marked is marked or ahead, and so is the
-- start.
pub record Reaching (pairs : List (ℕ × ℕ)) (before : List Bool) (start : List ℕ) (marks : List Bool)
    (ahead found : List ℕ) : Type 0 where
  pub news : AreNew before marks found
  pub within : (v : ℕ) → Contains ahead v → v < length before
  pub begun : (v : ℕ) → Contains start v → Marked marks v ⊎ Contains ahead v
  pub closing : (x y : ℕ) → Paired pairs x y → Marked marks x → Marked marks y ⊎ Contains ahead y
  pub ahead_sound : (v : ℕ) → Contains ahead v → (s : ℕ) × Contains start s × Belongs pairs v s
  pub found_sound : (x : ℕ) → Contains found x → (s : ℕ) × Contains start s × Belongs pairs x s

-- the containers of what was visited were visited, and all that it stands directly before was found
pub record AreVisited (ways : Ways) (outer inner : List Bool) : Type 0 where
  pub up : IsClosed ways.outward.items outer
  pub across : IsCrossed ways.edges.items outer inner
  pub down : IsClosed ways.containers.items inner
