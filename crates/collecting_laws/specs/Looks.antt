-- Looks of a collector at a declaration, and at what a node exports, and when they find nothing.
use Rattle.std.specs.Prelude.{◌≡◌, ℕ, false, List, Option, None, Some, Ok, slice_get}
use Rattle.override_rules.specs.Meaning.{State, touched_by}
use Rattle.res_book.specs.declared.row.Row.{Row}
use Rattle.res_core.specs.declared.exported.Exported.{Exported}
use Rattle.eval_collecting.specs.Importing.{import_match}
use Rattle.eval_collecting.specs.Matching.{local_match}
use Rattle.eval_world.specs.declared.world.World.{World}

abbrev pub touched_row : State → Option Row → ℕ
touched_row s None = 0
touched_row s (Some r) = touched_by s r

-- how many override lines are on the declaration of a number, and how many defaults are for its kind
abbrev pub touched_at : World → ℕ → ℕ
touched_at w n = touched_row w.overrides (slice_get w.book n)

-- a look at a declaration adds nothing, has no fault, and leaves the world as it was
abbrev pub IsQuiet : World → ℕ → ℕ → Type 0
IsQuiet w c n = local_match c n w ≡ Ok (false, w)

-- and one at what a node exports at a place of its set
abbrev pub ImportIsQuiet : World → ℕ → List ℕ → ℕ → Exported → Type 0
ImportIsQuiet w c node place e = import_match c node place e w ≡ Ok (false, w)
