-- A call of a lambda.
use Rattle.std.specs.Prelude.{ℕ, List, [], ◌∷◌, Option, None, Some, length}
use Rattle.pp_tree.specs.declared.expr.Expr.{Expr}
use Rattle.pp_tree.specs.declared.expr.Lambda.{Lambda, out-Lambda}
use Rattle.pp_tree.specs.declared.param.Param.{Param}
use Rattle.pp_tree.specs.declared.statement.Statement.{Statement}
use Rattle.pp_values.specs.Datum.{Datum}
use Rattle.eval_classes.specs.ParameterTypes.{has_type, accepted}
use Rattle.eval_world.specs.Inner.{Inner}
use Rattle.eval_world.specs.Outcomes.{Step, ◌>>=◌, ◌>>◌, pure, answered}
use Rattle.eval_world.specs.Worlds.{assign, enter_lambda, leave, place_at}
use Rattle.eval_world.specs.declared.here.Here.{Here}

-- a lambda's parameters and its block
pub record Opened : Type 0 where
  pub params : List (Param Expr)
  pub block : List Statement

abbrev pub opened : Lambda → Opened
opened l = record { params = (out-Lambda l).params; block = (out-Lambda l).block }

-- how many parameters a lambda has
abbrev pub param_count : Opened → ℕ
param_count l = length l.params

-- where the parameter has a type, its argument is of it, else F8 at the call
abbrev pub typed : Inner → Option Expr → Datum → List ℕ → ℕ → Here → Step (Unit {0})
typed inner None d x line own = pure tt
typed inner (Some kind) d x line own = do
  fits ← has_type inner kind d own
  (λ w. answered (accepted fits x (place_at w own line)) w)

-- A parameter has the value of its argument, whatever that is: its default is never taken. Its place is that of its
-- variable.
unfoldable pub bind_rule : Inner → Param Expr → Datum → ℕ → Here → Step (Unit {0})
bind_rule inner p d line own = do
  typed inner p.kind d p.name line own
  assign own p.name d p.at

-- each parameter in order; functions call a lambda with as many arguments as it has parameters
unfoldable pub bind_from : Inner → List (Param Expr) → List Datum → ℕ → Here → Step (Unit {0})
bind_from inner [] ds line own = pure tt
bind_from inner (p ∷ ps) [] line own = pure tt
bind_from inner (p ∷ ps) (d ∷ ds) line own = do
  bind_rule inner p d line own
  bind_from inner ps ds line own

-- The block is evaluated in a scope of its own within the one that the lambda stands in, which ends with the call. It
-- belongs to the call that the lambda is given to, which begins at this line.
unfoldable pub lambda_rule : Inner → Opened → List Datum → ℕ → Here → Step Datum
lambda_rule inner l arguments line here = do
  own ← enter_lambda here
  bind_from inner l.params arguments line own
  d ← inner.block l.block line own
  leave own
  pure d
