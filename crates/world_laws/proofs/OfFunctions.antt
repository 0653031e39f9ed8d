-- Calls of functions that the site defines.
use Rattle.std.proofs.Common.{ℕ, ◌≤◌, Bool, true, false, List, [], ◌∷◌, length, Option, None, Some, Ok, Err}
use Rattle.pp_tree.specs.declared.expr.Expr.{Expr}
use Rattle.pp_tree.specs.declared.param.Param.{Param}
use Rattle.pp_tree.specs.declared.statement.Statement.{Statement}
use Rattle.pp_values.specs.Datum.{Datum}
use Rattle.pp_values.specs.declared.place.Place.{Place}
use Rattle.scope_core.specs.Scopes as scopes
use Rattle.scope_core.specs.declared.scope_kind.ScopeKind.TheVariants as kind
use Rattle.eval_world.specs.Inner.{Inner}
use Rattle.eval_world.specs.Outcomes.{Outcome, Step, go_on, ◌>>=◌, ◌>>◌, pure}
use Rattle.eval_world.specs.Owners.{owner_in}
use Rattle.eval_world.specs.Worlds.{enter_function, leave, place_at}
use Rattle.eval_world.specs.declared.here.Here.{Here}
use Rattle.eval_world.specs.declared.world.World.{World}
use Rattle.eval_classes.specs.Functions.{FunctionIn}
use Rattle.eval_calls.specs.Functions.{bind_rule, default_value, default_rule, defaults_from, bind_from, is_result}
use Rattle.eval_calls.specs.Functions.{result_typed, run_function, taken_or_wrong, taken_by, function_rule, defined_by}
use Rattle.eval_calls.specs.Functions.{defined_rule, lambda_refused_by, lambda_refused}
use Rattle.world_laws.specs.Extends.{Extends}
use Rattle.world_laws.specs.Growing.{Reaches, Grows, GrowsInner}
use Rattle.world_laws.proofs.OfClasses.{typed_grows}
use Rattle.world_laws.proofs.OfWorld.{assign_grows}
use Rattle.world_laws.proofs.Steps.{and_then, pure_grows, answer_grows, fault_grows, told, not_less}
use Rattle.world_laws.proofs.Worlds.{extends_on, owner_in_stays, scope_entered, left_again}

-- ---- parameters, and what a function gives

module _ (inner : Inner) (g : GrowsInner inner) where
  pub bind_grows : (p : Param Expr) (d : Datum) (at : Place) (own : Here) → Grows (bind_rule inner p d at own)
  unfolding bind_rule
  bind_grows p d at own = and_then (typed_grows inner g p.kind d p.name at own) (λ u. assign_grows own p.name d p.at)

  pub value_grows : (o : Option Expr) (own : Here) → Grows (default_value inner o own)
  value_grows None own = pure_grows
  value_grows (Some e) own = g.value e own

  default_grows : (p : Param Expr) (at : Place) (own : Here) → Grows (default_rule inner p at own)
  unfolding default_rule
  default_grows p at own = and_then (value_grows p.default own) (λ d. bind_grows p d at own)

  defaults_grow : (ps : List (Param Expr)) (at : Place) (own : Here) → Grows (defaults_from inner ps at own)
  unfolding defaults_from
  defaults_grow [] at own = pure_grows
  defaults_grow (p ∷ ps) at own = and_then (default_grows p at own) (λ u. defaults_grow ps at own)

  binds_grow : (ps : List (Param Expr)) (ds : List Datum) (at : Place) (own : Here) →
      Grows (bind_from inner ps ds at own)
  unfolding bind_from
  binds_grow [] ds at own = pure_grows
  binds_grow (p ∷ ps) [] at own = defaults_grow (p ∷ ps) at own
  binds_grow (p ∷ ps) (d ∷ ds) at own = and_then (bind_grows p d at own) (λ u. binds_grow ps ds at own)

  is_result_grows : (e : Expr) (d : Datum) (own : Here) → Grows (is_result inner e d own)
  unfolding is_result
  is_result_grows e d own = and_then (g.value e own) (λ of_kind. answer_grows _)

  result_grows : (o : Option Expr) (d : Datum) (written : List ℕ) (at : Place) (own : Here) →
      Grows (result_typed inner o d written at own)
  result_grows None d written at own = pure_grows
  result_grows (Some e) d written at own = and_then (is_result_grows e d own) (λ fits. answer_grows _)

-- ---- the call

-- where the body of a function is evaluated, and the world then
abbrev pub own_in : List ℕ → World → Here
own_in file w = record {
  scope = record { number = length w.scopes.scopes };
  owner = (owner_in file w.owners).0;
  typed = false;
}

abbrev owned_in : List ℕ → World → World
owned_in file w = record w { owners = (owner_in file w.owners).1 }

abbrev pub entered_in : List ℕ → World → World
entered_in file w =
    record w { scopes = scopes.entered kind.Lambda 0 w.scopes; owners = (owner_in file w.owners).1 }

pub entered_extends : (file : List ℕ) (w : World) → Extends w (entered_in file w)
entered_extends file w = extends_on w (owned_in file w) (entered_in file w) (owner_in_stays w file)
    (scope_entered (owned_in file w) kind.Lambda 0)

-- What is given is tested, and then the scope ends that was not there before.
tested : (w v : World) (own : Here) (d : Datum) (o : Outcome (Unit {0})) → Extends w v →
    length w.scopes.scopes ≤ own.scope.number → Reaches v o → Reaches w (go_on o (λ u. leave own >> pure d))
tested w v own d (Ok p) f past r = left_again w p.1 own.scope.number past (extends_on w v p.1 f r)
tested w v own d (Err e) f past r = tt

given : (w v : World) (own : Here) (test : Datum → Step (Unit {0})) (o : Outcome Datum) →
    ((d : Datum) → Grows (test d)) →
    Extends w v → length w.scopes.scopes ≤ own.scope.number → Reaches v o →
    Reaches w (go_on o (λ d. test d >> (leave own >> pure d)))
given w v own test (Ok p) tests f past r =
    tested w p.1 own p.0 (test p.0 p.1) (extends_on w v p.1 f r) past ((tests p.0).reaches p.1)
given w v own test (Err e) tests f past r = tt

module _ (inner : Inner) (g : GrowsInner inner) where
  body_ends : (w v : World) (own : Here) (test : Datum → Step (Unit {0})) (b : List Statement) (line : ℕ)
      (o : Outcome (Unit {0})) → ((d : Datum) → Grows (test d)) → Extends w v →
      length w.scopes.scopes ≤ own.scope.number → Reaches v o →
      Reaches w (go_on o (λ u. inner.block b line own >>= (λ d. test d >> (leave own >> pure d))))
  body_ends w v own test b line (Ok p) tests f past r =
      given w p.1 own test (inner.block b line own p.1) tests (extends_on w v p.1 f r) past
      ((g.block b line own).reaches p.1)
  body_ends w v own test b line (Err e) tests f past r = tt

  -- A call ends no scope but its own, which was not there before.
  run_function_grows : (f : FunctionIn) (written : List ℕ) (arguments : List Datum) (at : Place) →
      Grows (run_function inner f written arguments at)
  unfolding run_function enter_function
  run_function_grows f written arguments at = record {
    reaches = λ w.
        body_ends w (entered_in f.1 w) (own_in f.1 w)
        (λ d. result_typed inner f.0.return_type d written at (own_in f.1 w)) f.0.block f.0.at
        (bind_from inner f.0.params arguments at (own_in f.1 w) (entered_in f.1 w))
        (λ d. result_grows inner g f.0.return_type d written at (own_in f.1 w))
        (entered_extends f.1 w) (not_less (length w.scopes.scopes))
        ((binds_grow inner g f.0.params arguments at (own_in f.1 w)).reaches (entered_in f.1 w));
  }

  taken_grows : (b : Bool) (f : FunctionIn) (written : List ℕ) (arguments : List Datum) (at : Place) →
      Grows (taken_or_wrong b inner f written arguments at)
  taken_grows true f written arguments at = run_function_grows f written arguments at
  taken_grows false f written arguments at = fault_grows _

  function_grows : (f : FunctionIn) (written : List ℕ) (arguments : List Datum) (at : Place) →
      Grows (function_rule inner f written arguments at)
  unfolding function_rule
  function_grows f written arguments at = taken_grows (taken_by arguments f.0.params) f written arguments at

  defined_by_grows : (o : Option FunctionIn) (f : List ℕ) (arguments : List Datum) (line : ℕ) (here : Here) →
      Grows (defined_by inner o f arguments line here)
  defined_by_grows None f arguments line here = fault_grows _
  defined_by_grows (Some found) f arguments line here = told
      (λ w. function_rule inner found f arguments (place_at w here line)) (λ w. function_grows found f arguments _)

  pub defined_grows : (f : List ℕ) (arguments : List Datum) (line : ℕ) (here : Here) →
      Grows (defined_rule inner f arguments line here)
  unfolding defined_rule
  defined_grows f arguments line here =
      and_then (answer_grows _) (λ found. defined_by_grows found f arguments line here)

-- ---- a lambda for it

refused_by_grows : (o : Option FunctionIn) (f : List ℕ) (line : ℕ) (here : Here) →
    Grows (lambda_refused_by o f line here)
refused_by_grows None f line here = fault_grows _
refused_by_grows (Some found) f line here = fault_grows _

pub lambda_refused_grows : (f : List ℕ) (line : ℕ) (here : Here) → Grows (lambda_refused f line here)
unfolding lambda_refused
lambda_refused_grows f line here = and_then (answer_grows _) (λ found. refused_by_grows found f line here)
