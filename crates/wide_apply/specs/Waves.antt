-- Waves: resources whose turns may be taken at once. `Comes y x`: y comes before x.
use Rattle.std.specs.Prelude.{◌≡◌, ◌↔◌, ℕ, zero, suc, ◌<◌, ◌≤◌, nat_eq, if◌then◌else◌, List, [], ◌∷◌, length, get_or}
use Rattle.std.specs.Prelude.{Vec}
use Rattle.std.specs.List.{All, Contains}
use Rattle.std.specs.declared.alloc.Global.{Global}
use Rattle.agent_transaction.specs.declared.planned.Planned.{Planned}
use Rattle.agent_transaction.specs.declared.task.Task.{Task}

abbrev pub HasTurn : List (ℕ × Task) → ℕ → Type 0
HasTurn tasks x = (task : Task) × Contains tasks (x, task)

-- A resource that has a turn stands in a wave exactly where it stands in none before it, and all that have turns and
-- come before it do. So in the first one stand those that nothing with a turn comes before.
pub record IsNumbering (Comes : ℕ → ℕ → Type 0) (tasks : List (ℕ × Task)) (wave : ℕ → ℕ) : Type 0 where
  pub stands : (x w : ℕ) → HasTurn tasks x →
      ((wave x ≡ w) ↔ ((w ≤ wave x) × ((y : ℕ) → HasTurn tasks y → Comes y x → wave y < w)))

-- those of one wave
abbrev pub in_wave : (ℕ → ℕ) → ℕ → List (ℕ × Task) → List (ℕ × Task)
in_wave wave w [] = []
in_wave wave w (t ∷ ts) = if nat_eq (wave t.0) w then t ∷ in_wave wave w ts else in_wave wave w ts

-- so many waves, from this one on
abbrev pub waves_from : (ℕ → ℕ) → List (ℕ × Task) → ℕ → ℕ → List (List (ℕ × Task))
waves_from wave tasks w zero = []
waves_from wave tasks w (suc count) = in_wave wave w tasks ∷ waves_from wave tasks (suc w) count

-- the waves of these tasks, and each task stands in one
pub record AreWaves (Comes : ℕ → ℕ → Type 0) (tasks : List (ℕ × Task)) (waves : List (List (ℕ × Task))) : Type 0 where
  pub wave : ℕ → ℕ
  pub numbering : IsNumbering Comes tasks wave
  pub whole : All (λ t. wave t.0 < length waves) tasks
  pub each : waves ≡ waves_from wave tasks 0 (length waves)

-- those of one wave, with all that their turns need
abbrev pub planned_in : (ℕ → ℕ) → ℕ → List Planned → List Planned
planned_in wave w [] = []
planned_in wave w (p ∷ ps) = if nat_eq (wave p.at) w then p ∷ planned_in wave w ps else planned_in wave w ps

-- turns stand in lists, each in that of its wave
pub record IsDivided (wave : ℕ → ℕ) (plan : List Planned) (lists : List (Vec Planned Global)) : Type 0 where
  pub each : (w : ℕ) (d : Vec Planned Global) → w < length lists → (get_or lists w d).items ≡ planned_in wave w plan
  pub whole : All (λ p. wave p.at < length lists) plan
