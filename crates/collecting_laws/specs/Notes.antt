-- What is noted of the looks of collectors, and when it may be gone by.
use Rattle.std.specs.Prelude.{◌≡◌, ℕ, ◌<◌, ◌≤◌, ◌==◌, Bool, false, ◌&&◌, if◌then◌else◌, length, Option, None, Some}
use Rattle.eval_world.specs.declared.world.World.{World}
use Rattle.world_laws.specs.Extends.{IsPlaced}
use Rattle.collecting_laws.specs.Looks.{IsQuiet, touched_at}

-- ---- what is noted of a collector and a declaration

-- how many lines and defaults concerned the declaration just before the last look at this pair, or that there was none
abbrev pub Notes : Type 0
Notes = ℕ → ℕ → Option ℕ

abbrev pub noted : ℕ → ℕ → ℕ → Notes → Notes
noted c n touched notes = λ d m. if (d == c) && (m == n) then Some touched else notes d m

-- as many concern it now
abbrev pub is_noted : Option ℕ → ℕ → Bool
is_noted None touched = false
is_noted (Some before) touched = before == touched

-- before the first round nothing was looked at
abbrev pub no_notes : Notes
no_notes = λ c n. None

-- ---- notes that may be gone by

-- So many concerned the declaration at a look, and while no more do, a look finds nothing.
pub record IsKnown (w : World) (c n touched : ℕ) : Type 0 where
  pub there : c < length w.relations.collectors
  pub below : n < length w.book
  pub risen : touched ≤ touched_at w n
  pub quiet : touched_at w n ≡ touched → IsQuiet w c n

pub record AreGood (notes : Notes) (w : World) : Type 0 where
  pub placed : IsPlaced w
  pub known : (c n touched : ℕ) → notes c n ≡ Some touched → IsKnown w c n touched
