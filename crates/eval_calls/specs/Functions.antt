-- Calls of functions that the site defines.
use Rattle.std.specs.Prelude.{ℕ, Bool, true, false, ◌&&◌, is_some, List, [], ◌∷◌, Option, None, Some, Err}
use Rattle.pp_tree.specs.Building.{line_of}
use Rattle.pp_tree.specs.declared.expr.Expr.{Expr}
use Rattle.pp_tree.specs.declared.param.Param.{Param}
use Rattle.pp_values.specs.Datum.{Datum, undef}
use Rattle.pp_values.specs.Faults as faults
use Rattle.pp_values.specs.declared.fault.What.TheVariants as what
use Rattle.pp_values.specs.declared.place.Place.{Place}
use Rattle.expr_eval.specs.Testing.{is_of}
use Rattle.eval_classes.specs.Functions.{FunctionIn, function_found}
use Rattle.eval_classes.specs.ParameterTypes.{accepted}
use Rattle.eval_classes.specs.Parameters.{typed}
use Rattle.eval_world.specs.Inner.{Inner}
use Rattle.eval_world.specs.Outcomes.{Step, ◌>>=◌, ◌>>◌, pure, answered}
use Rattle.eval_world.specs.Worlds.{assign, enter_function, fault, leave, place_at, wrong}
use Rattle.eval_world.specs.declared.here.Here.{Here}

-- ---- how many values a function takes

unfoldable pub have_defaults : List (Param Expr) → Bool
have_defaults [] = true
have_defaults (p ∷ ps) = is_some p.default && have_defaults ps

-- not more than there are parameters, and each parameter that is left over has a default
unfoldable pub taken_by : List Datum → List (Param Expr) → Bool
taken_by [] ps = have_defaults ps
taken_by (d ∷ ds) [] = false
taken_by (d ∷ ds) (p ∷ ps) = taken_by ds ps

-- ---- parameters

-- A parameter has this value: first comes its type, F8 at the call, and then its name is set, F3 at the line of the
-- variable.
unfoldable pub bind_rule : Inner → Param Expr → Datum → Place → Here → Step (Unit {0})
bind_rule inner p d at own = do
  typed inner p.kind d p.name at own
  assign own p.name d p.at

-- a default is evaluated in the new scope, one level further in
abbrev pub default_value : Inner → Option Expr → Here → Step Datum
default_value inner None own = pure undef
default_value inner (Some e) own = inner.value e own

unfoldable pub default_rule : Inner → Param Expr → Place → Here → Step (Unit {0})
default_rule inner p at own = do
  d ← default_value inner p.default own
  bind_rule inner p d at own

unfoldable pub defaults_from : Inner → List (Param Expr) → Place → Here → Step (Unit {0})
defaults_from inner [] at own = pure tt
defaults_from inner (p ∷ ps) at own = do
  default_rule inner p at own
  defaults_from inner ps at own

-- The parameters in order, each with the value in its place, whatever that is; those that are left over have their
-- defaults.
unfoldable pub bind_from : Inner → List (Param Expr) → List Datum → Place → Here → Step (Unit {0})
bind_from inner [] ds at own = pure tt
bind_from inner (p ∷ ps) [] at own = defaults_from inner (p ∷ ps) at own
bind_from inner (p ∷ ps) (d ∷ ds) at own = do
  bind_rule inner p d at own
  bind_from inner ps ds at own

-- ---- what it gives

-- The type behind `>>` is evaluated in the function's scope, one level deeper than the call, and is no parameter's: it
-- may name any kind. F11 `=~` stands at its line, where it is no type.
unfoldable pub is_result : Inner → Expr → Datum → Here → Step Bool
is_result inner kind d own = do
  of_kind ← inner.value kind own
  (λ w. answered (is_of d of_kind (place_at w own (line_of kind))) w)

-- F8 at the call, with the function's name
abbrev pub result_typed : Inner → Option Expr → Datum → List ℕ → Place → Here → Step (Unit {0})
result_typed inner None d name at own = pure tt
result_typed inner (Some kind) d name at own = do
  fits ← is_result inner kind d own
  answered (accepted fits name at)

-- ---- the call

-- The parameters are set in a scope of its own, which reads its own names and then top scope. The value is that of the
-- body, one level deeper than the call; a body that is too deep is refused at the line of the definition.
unfoldable pub run_function : Inner → FunctionIn → List ℕ → List Datum → Place → Step Datum
run_function inner f name arguments at = do
  own ← enter_function f.1
  bind_from inner f.0.params arguments at own
  d ← inner.block f.0.block f.0.at own
  result_typed inner f.0.return_type d name at own
  leave own
  pure d

-- F7 comes before anything is set
abbrev pub taken_or_wrong : Bool → Inner → FunctionIn → List ℕ → List Datum → Place → Step Datum
taken_or_wrong true inner f name arguments at = run_function inner f name arguments at
taken_or_wrong false inner f name arguments at = λ w. Err (faults.fault at (what.WrongArguments name))

unfoldable pub function_rule : Inner → FunctionIn → List ℕ → List Datum → Place → Step Datum
function_rule inner f name arguments at = taken_or_wrong (taken_by arguments f.0.params) inner f name arguments at

-- ---- by its name

-- F6 names the function
abbrev pub defined_by : Inner → Option FunctionIn → List ℕ → List Datum → ℕ → Here → Step Datum
defined_by inner None f arguments line here = fault here line (what.UnknownFunction f)
defined_by inner (Some found) f arguments line here =
    λ w. function_rule inner found f arguments (place_at w here line) w

-- the function of this name that the site defines; a file that is used and has a fault gives that
unfoldable pub defined_rule : Inner → List ℕ → List Datum → ℕ → Here → Step Datum
defined_rule inner f arguments line here = do
  found ← (λ w. answered (function_found w.environment f) w)
  defined_by inner found f arguments line here

-- none of them takes a lambda
abbrev pub lambda_refused_by : Option FunctionIn → List ℕ → ℕ → Here → Step Datum
lambda_refused_by None f line here = fault here line (what.UnknownFunction f)
lambda_refused_by (Some found) f line here = wrong f line here

unfoldable pub lambda_refused : List ℕ → ℕ → Here → Step Datum
lambda_refused f line here = do
  found ← (λ w. answered (function_found w.environment f) w)
  lambda_refused_by found f line here
