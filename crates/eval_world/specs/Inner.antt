-- What a form asks of the parts that stand one level further in.
use Rattle.std.specs.Prelude.{ℕ, List}
use Rattle.pp_tree.specs.declared.expr.Expr.{Expr}
use Rattle.pp_tree.specs.declared.resource.Reference.{Reference}
use Rattle.pp_tree.specs.declared.statement.Statement.{Statement}
use Rattle.pp_tree.specs.declared.statement.Words.{Words}
use Rattle.pp_values.specs.Datum.{Datum}
use Rattle.eval_world.specs.Outcomes.{Step}
use Rattle.eval_world.specs.declared.goal.Goal.{Goal}
use Rattle.eval_world.specs.declared.goal.Goal.TheVariants as goal
use Rattle.eval_world.specs.declared.here.Here.{Here}

-- the meaning of a part of each kind; a number is that of a declaration, and the line is where the part is refused that
-- stands too deep
pub record Inner : Type 0 where
  pub value : Expr → Here → Step Datum
  pub block : List Statement → ℕ → Here → Step Datum
  pub words : Words Expr → Here → Step Datum
  pub target : Reference Expr → Here → Step Datum
  pub class : ℕ → ℕ → Here → Step Datum
  pub instance : ℕ → ℕ → Here → Step Datum

abbrev pub asked : Inner → Goal → Here → Step Datum
asked inner (goal.Value e) here = inner.value e.now here
asked inner (goal.Block b line) here = inner.block b.now line here
asked inner (goal.Words x) here = inner.words x.now here
asked inner (goal.Target r) here = inner.target r.now here
asked inner (goal.Class n line) here = inner.class n line here
asked inner (goal.Instance n line) here = inner.instance n line here
