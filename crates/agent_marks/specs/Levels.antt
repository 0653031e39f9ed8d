-- Levels of nodes: how many resources that count lie on the way to a node.
use Rattle.std.specs.Prelude.{◌≡◌, ℕ, suc, ◌+◌, ◌<◌, ◌≤◌, Bool, true, false, ◌&&◌, ◌-◌, ◌^◌, nat_eq, if◌then◌else◌}
use Rattle.std.specs.Prelude.{List, [], ◌∷◌, length, get_or}
use Rattle.std.specs.List.{Contains}
use Rattle.rel_graph.specs.Before.{Belongs}
use Rattle.rel_graph.specs.Chains.{Paired}
use Rattle.rel_graph.specs.Marks.{Marked}
use Rattle.agent_marks.specs.Nodes.{begin_of}

abbrev pub level_at : List ℕ → ℕ → ℕ
level_at levels v = get_or levels v 0

-- the level of a resource is that of its begin
abbrev pub level_of : List ℕ → ℕ → ℕ
level_of levels x = level_at levels (begin_of x)

-- `starts` has the begins of the resources that count: the arrow to the next node, from begin to end, is a step
abbrev pub step : List Bool → ℕ → ℕ → ℕ
step starts u v = if get_or starts u false && nat_eq v (u + 1) then 1 else 0

-- no arrow leads too far up
abbrev pub Settled : List (ℕ × ℕ) → List Bool → List ℕ → Type 0
Settled arrows starts levels = (u v : ℕ) → Paired arrows u v → level_at levels u + step starts u v ≤ level_at levels v

-- a level is reached from a start of the level before it
abbrev pub Earned : List (ℕ × ℕ) → List Bool → List ℕ → Type 0
Earned arrows starts levels = (v k : ℕ) → level_at levels v ≡ suc k →
    (s : ℕ) × Marked starts s × Belongs arrows v (s + 1) × (k ≤ level_at levels s)

-- how far levels may still rise
abbrev pub room_above : List ℕ → ℕ
room_above [] = 0
room_above (l ∷ ls) = (2 ^ 32 - l) + room_above ls

-- Levels rose along arrows, or none did; and where none did, none of these arrows leads too far up.
pub record Rises (arrows : List (ℕ × ℕ)) (starts : List Bool) (Looked : ℕ → ℕ → Type 0)
    (rose : Bool) (before after : List ℕ) : Type 0 where
  pub long : length after ≡ length before
  pub earned : Earned arrows starts before → Earned arrows starts after
  pub less : room_above after ≤ room_above before
  pub lower : rose ≡ true → room_above after < room_above before
  pub same : rose ≡ false → after ≡ before
  pub held : rose ≡ false → (u v : ℕ) → Looked u v → level_at before u + step starts u v ≤ level_at before v

-- The level of each resource: where one that counts comes before it, it is higher than that one; and unless it is 0,
-- one that counts and is at least of the level below it comes before it.
pub record AreLevels (Comes : ℕ → ℕ → Type 0) (count : ℕ) (counted levels : List ℕ) : Type 0 where
  pub rises : (y x : ℕ) → Contains counted y → Comes y x → level_of levels y < level_of levels x
  pub earned : (x k : ℕ) → level_of levels x ≡ suc k →
      (y : ℕ) × Contains counted y × Comes y x × (k ≤ level_of levels y)
