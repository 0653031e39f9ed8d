-- A function value that evaluates what stands one level further in.
use Rattle.std.specs.Prelude.{ℕ, Result}
use denote.Ref.{MutBor}
use Rattle.pp_values.specs.Datum.{Datum}
use Rattle.pp_values.specs.declared.fault.Stop.{Stop}
use Rattle.eval_world.specs.Inner.{Inner, asked}
use Rattle.eval_world.specs.Outcomes.{Gives, same}
use Rattle.eval_world.specs.declared.goal.Goal.{Goal}
use Rattle.eval_world.specs.declared.here.Here.{Here}
use Rattle.eval_world.specs.declared.world.World.{World}

-- It may be called with so many levels left, and gives exactly what the part means there.
pub record Nests (inner : Inner) (left : ℕ) (pre : MutBor World → Goal → Here → ℕ → Type 0)
    (post : MutBor World → Goal → Here → ℕ → Result Datum Stop → MutBor World → Type 0) : Type 0 where
  pub callable : (old : MutBor World) (goal : Goal) (here : Here) → pre old goal here left
  pub gives : (old new : MutBor World) (goal : Goal) (here : Here) (r : Result Datum Stop) →
      post old goal here left r new
      → Gives same (asked inner goal here old.now) r new.now
