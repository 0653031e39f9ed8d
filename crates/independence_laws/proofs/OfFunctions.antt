-- Calls of functions that the site defines.
use Rattle.std.proofs.Common.{ℕ, Bool, true, false, List, [], ◌∷◌, Option, None, Some, refl}
use Rattle.pp_tree.specs.declared.expr.Expr.{Expr}
use Rattle.pp_tree.specs.declared.param.Param.{Param}
use Rattle.pp_tree.specs.declared.statement.Statement.{Statement}
use Rattle.pp_values.specs.Datum.{Datum}
use Rattle.pp_values.specs.declared.place.Place.{Place}
use Rattle.eval_world.specs.Inner.{Inner}
use Rattle.eval_world.specs.Outcomes.{Step, answered, ◌>>=◌, ◌>>◌, pure}
use Rattle.eval_world.specs.Worlds.{enter_function, leave, place_at}
use Rattle.eval_world.specs.declared.here.Here.{Here}
use Rattle.eval_world.specs.declared.world.World.{World}
use Rattle.eval_classes.specs.Functions.{FunctionIn, function_found}
use Rattle.expr_eval.specs.Testing.{is_of}
use Rattle.pp_tree.specs.Building.{line_of}
use Rattle.pp_values.specs.Faults as faults
use Rattle.pp_values.specs.declared.fault.What.TheVariants as what
use Rattle.eval_calls.specs.Functions.{bind_rule, default_value, default_rule, defaults_from, bind_from, is_result}
use Rattle.eval_calls.specs.Functions.{result_typed, run_function, taken_or_wrong, taken_by, function_rule, defined_by}
use Rattle.eval_calls.specs.Functions.{defined_rule, lambda_refused_by, lambda_refused}
use Rattle.independence_laws.specs.Steps.{Same, SameInner, Two}
use Rattle.independence_laws.proofs.OfClasses.{typed_same}
use Rattle.independence_laws.proofs.OfWorld.{assign_same, by_environment, fault_here}
use Rattle.independence_laws.proofs.Going.{and_then, answer_same, fault_same, place_same, pure_same, told}
use Rattle.independence_laws.proofs.Opening.{function_entered, in_scope, left_same}

-- ---- parameters, and what a function gives

module _ (inner : Inner) (same : SameInner inner) (two : Two) where
  pub bind_same : (p : Param Expr) (d : Datum) (at : Place) → Same two (λ own. bind_rule inner p d at own)
  unfolding bind_rule
  bind_same p d at = and_then two (typed_same inner same two p.kind d p.name at) (λ u. assign_same two p.name d p.at)

  pub value_same : (o : Option Expr) → Same two (λ own. default_value inner o own)
  value_same None = pure_same two
  value_same (Some e) = same.value e two

  default_same : (p : Param Expr) (at : Place) → Same two (λ own. default_rule inner p at own)
  unfolding default_rule
  default_same p at = and_then two (value_same p.default) (λ d. bind_same p d at)

  defaults_same : (ps : List (Param Expr)) (at : Place) → Same two (λ own. defaults_from inner ps at own)
  unfolding defaults_from
  defaults_same [] at = pure_same two
  defaults_same (p ∷ ps) at = and_then two (default_same p at) (λ u. defaults_same ps at)

  binds_same : (ps : List (Param Expr)) (ds : List Datum) (at : Place) →
      Same two (λ own. bind_from inner ps ds at own)
  unfolding bind_from
  binds_same [] ds at = pure_same two
  binds_same (p ∷ ps) [] at = defaults_same (p ∷ ps) at
  binds_same (p ∷ ps) (d ∷ ds) at = and_then two (bind_same p d at) (λ u. binds_same ps ds at)

  is_result_same : (e : Expr) (d : Datum) → Same two (λ own. is_result inner e d own)
  unfolding is_result
  is_result_same e d = and_then two (same.value e two) (λ of_kind.
      told two (λ own w. place_at w own (line_of e)) (λ own at. answered (is_of d of_kind at))
      (λ first second v w alike o p. place_same two first second v w alike o p (line_of e))
      (λ at. answer_same two (is_of d of_kind at)))

  result_same : (o : Option Expr) (d : Datum) (written : List ℕ) (at : Place) →
      Same two (λ own. result_typed inner o d written at own)
  result_same None d written at = pure_same two
  result_same (Some e) d written at = and_then two (is_result_same e d) (λ fits. answer_same two _)

-- ---- the call

module _ (inner : Inner) (same : SameInner inner) where
  body_same : (f : FunctionIn) (written : List ℕ) (arguments : List Datum) (at : Place) (t : Two)
      → Same t (λ own. bind_from inner f.0.params arguments at own
      >> (inner.block f.0.block f.0.at own
      >>= (λ d. result_typed inner f.0.return_type d written at own >> (leave own >> pure d))))
  body_same f written arguments at t = and_then t (binds_same inner same t f.0.params arguments at) (λ u.
      and_then t (same.block f.0.block f.0.at t) (λ d.
      and_then t (result_same inner same t f.0.return_type d written at) (λ u.
      and_then t (left_same t) (λ u. pure_same t {a = d}))))

module _ (inner : Inner) (same : SameInner inner) (two : Two) where
  run_function_same : (f : FunctionIn) (written : List ℕ) (arguments : List Datum) (at : Place) →
      Same two (λ here. run_function inner f written arguments at)
  unfolding run_function
  run_function_same f written arguments at =
      in_scope two (λ here. enter_function f.1)
      (λ own. bind_from inner f.0.params arguments at own
      >> (inner.block f.0.block f.0.at own
      >>= (λ d. result_typed inner f.0.return_type d written at own >> (leave own >> pure d))))
      (function_entered two f.1) (body_same inner same f written arguments at)

  taken_same : (b : Bool) (f : FunctionIn) (written : List ℕ) (arguments : List Datum) (at : Place) →
      Same two (λ here. taken_or_wrong b inner f written arguments at)
  taken_same true f written arguments at = run_function_same f written arguments at
  taken_same false f written arguments at = fault_same two (λ here w. faults.fault at (what.WrongArguments written))
      (λ first second v w alike o p. refl)

  function_same : (f : FunctionIn) (written : List ℕ) (arguments : List Datum) (at : Place) →
      Same two (λ here. function_rule inner f written arguments at)
  unfolding function_rule
  function_same f written arguments at = taken_same (taken_by arguments f.0.params) f written arguments at

  defined_by_same : (o : Option FunctionIn) (f : List ℕ) (arguments : List Datum) (line : ℕ) →
      Same two (λ here. defined_by inner o f arguments line here)
  defined_by_same None f arguments line = fault_here two line _
  defined_by_same (Some found) f arguments line = told two (λ here w. place_at w here line)
      (λ here at. function_rule inner found f arguments at)
      (λ first second v w alike o p. place_same two first second v w alike o p line)
      (λ at. function_same found f arguments at)

  pub defined_same : (f : List ℕ) (arguments : List Datum) (line : ℕ) →
      Same two (λ here. defined_rule inner f arguments line here)
  unfolding defined_rule
  defined_same f arguments line =
      and_then two (by_environment two (λ m. function_found m f)) (λ found. defined_by_same found f arguments line)

-- ---- a lambda for it

module _ (two : Two) where
  refused_by_same : (o : Option FunctionIn) (f : List ℕ) (line : ℕ) →
      Same two (λ here. lambda_refused_by o f line here)
  refused_by_same None f line = fault_here two line _
  refused_by_same (Some found) f line = fault_here two line _

  pub lambda_refused_same : (f : List ℕ) (line : ℕ) → Same two (λ here. lambda_refused f line here)
  unfolding lambda_refused
  lambda_refused_same f line = and_then two (by_environment two (λ m. function_found m f)) (λ found. refused_by_same found f line)
