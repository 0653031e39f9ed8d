-- Steps that only add to the world.
use Rattle.std.specs.Prelude.{ℕ, List, Ok, Err}
use Rattle.pp_tree.specs.declared.expr.Expr.{Expr}
use Rattle.pp_tree.specs.declared.resource.Reference.{Reference}
use Rattle.pp_tree.specs.declared.statement.Statement.{Statement}
use Rattle.pp_tree.specs.declared.statement.Words.{Words}
use Rattle.eval_world.specs.Inner.{Inner}
use Rattle.eval_world.specs.Outcomes.{Outcome, Step}
use Rattle.eval_world.specs.declared.here.Here.{Here}
use Rattle.eval_world.specs.declared.world.World.{World}
use Rattle.world_laws.specs.Extends.{Extends}

-- where a world came out, it extends the one before
abbrev pub Reaches : {A : Type 0} → World → Outcome A → Type 0
Reaches w (Ok p) = Extends w p.1
Reaches w (Err f) = Unit {0}

-- from whatever world
pub record Grows {A : Type 0} (step : Step A) : Type 0 where
  pub reaches : (w : World) → Reaches w (step w)

-- what stands one level further in does
pub record GrowsInner (inner : Inner) : Type 0 where
  pub value : (e : Expr) (here : Here) → Grows (inner.value e here)
  pub block : (b : List Statement) (line : ℕ) (here : Here) → Grows (inner.block b line here)
  pub words : (x : Words Expr) (here : Here) → Grows (inner.words x here)
  pub target : (r : Reference Expr) (here : Here) → Grows (inner.target r here)
  pub class : (n line : ℕ) (here : Here) → Grows (inner.class n line here)
  pub instance : (n line : ℕ) (here : Here) → Grows (inner.instance n line here)
