-- A function value that reads what stands one level further in.
use Rattle.std.specs.Prelude.{ℕ, ◌<◌, Result}
use Rattle.std.specs.declared.alloc.Global.{Global}
use denote.Ref.{MutBor}
use Rattle.pp_parser.specs.declared.inset.Inset.{Inset}
use Rattle.pp_parser.specs.declared.inset.InsetTree.{InsetTree}
use Rattle.pp_parser.specs.declared.refusal.Refusal.{Refusal}
use Rattle.pp_parser.specs.Input.{Input, Reads}
use Rattle.pp_parser.specs.Levels.{part_by, within}

-- It may be called with fewer levels than these, and reads exactly what the goal means there.
pub record Nests (levels : ℕ) (pre : Global → MutBor Input → ℕ → Inset → Type 0)
    (post : Global → MutBor Input → ℕ → Inset → Result InsetTree Refusal → MutBor Input → Type 0) : Type 0 where
  pub callable : (alloc : Global) (old : MutBor Input) (fewer : ℕ) (goal : Inset) → fewer < levels →
      pre alloc old fewer goal
  pub reads : (alloc : Global) (old new : MutBor Input) (fewer : ℕ) (goal : Inset) (r : Result InsetTree Refusal) →
      fewer < levels → post alloc old fewer goal r new
      → Reads (part_by (within fewer) goal old.now) r new.now
