-- Statements that are run for what they do change the world as those whose values are asked for.
use Rattle.std.proofs.Common.{◌≡◌, ◌∙◌, ℕ, zero, suc, ◌-◌, List, [], ◌∷◌, Option, Some, Result, Ok, Err, refl, ap, arith, subst}
use Rattle.pp_tree.specs.declared.expr.Expr.{Expr}
use Rattle.pp_tree.specs.declared.file.File.{File}
use Rattle.pp_tree.specs.declared.statement.Statement.{Statement, out-Statement}
use Rattle.pp_values.specs.Answers.{IsRefused, fault_told}
use Rattle.pp_values.specs.Datum.{Datum, undef}
use Rattle.pp_values.specs.declared.fault.Stop.{Stop}
use Rattle.pp_values.specs.declared.fault.Stop.TheVariants as stop
use Rattle.class_eval.specs.Evaluating.{at_depth, main_rule, nodes_rule}
use Rattle.class_eval.specs.Meaning.{within, value_rule}
use Rattle.class_eval.specs.Running.{run, run_from}
use Rattle.class_eval.specs.Single.{IsStatement}
use Rattle.class_eval.specs.Statements.{or_before, statement_rule, statements_from}
use Rattle.class_eval.proofs.Single.{of_statement}
use Rattle.eval_forms.specs.Operators.{assigned_rule}
use Rattle.eval_world.specs.Inner.{Inner}
use Rattle.eval_world.specs.Outcomes.{Gives, Outcome, Step, go_on, nothing}
use Rattle.eval_world.specs.Worlds.{assign, top}
use Rattle.eval_world.specs.declared.here.Here.{Here}
use Rattle.eval_world.specs.declared.world.World.{World}

-- ---- a value that is dropped

abbrev forget : {A : Type 0} → Outcome A → Outcome (Unit {0})
forget p = go_on p (λ _ w. Ok (tt, w))

valued_alike : (p : Outcome Datum) → forget (go_on p (λ v w. Ok (Some v, w))) ≡ forget p
valued_alike (Ok p) = refl
valued_alike (Err f) = refl

-- a statement that is an expression
pub run_stated : (inner : Inner) (e : Expr) (s : Statement) (here : Here) (w : World)
    (r : Result (Unit {0}) Stop) (new : World) → IsStatement e (out-Statement s)
    → Gives nothing (run (inner.value e here) w) r new
    → Gives nothing (run (statement_rule inner s here) w) r new
unfolding statement_rule
run_stated inner e s here w r new is gives =
    rw (of_statement inner e here (out-Statement s) is, valued_alike (inner.value e here w)) gives

-- one level of an expression
pub one_level_run : (left : ℕ) (e : Expr) (here : Here) (w : World) (r : Result (Unit {0}) Stop) (new : World)
    → ¬ (left ≡ 0) → Gives nothing (run (value_rule (within (left - 1)) e here) w) r new
    → Gives nothing (run ((within left).value e here) w) r new
unfolding within
one_level_run zero e here w r new some gives = absurd (some refl)
one_level_run (suc n) e here w r new some gives =
    let is : suc n - 1 ≡ n = omega arith in
    subst (λ k. Gives nothing (run (value_rule (within k) e here) w) r new) is gives

-- an assignment
set_alike : (p : Outcome (Unit {0})) (d : Datum) → forget (go_on p (λ _ w. Ok (d, w))) ≡ p
set_alike (Ok p) d = refl
set_alike (Err f) d = refl

module _ (inner : Inner) (x : List ℕ) (e : Expr) (line : ℕ) (here : Here) (w : World) where
  pub run_assigned : (v : Datum) (after : World) (r : Result (Unit {0}) Stop) (new : World)
      → inner.value e here w ≡ Ok (v, after) → Gives nothing (assign here x v line after) r new
      → Gives nothing (run (assigned_rule inner x e line here) w) r new
  unfolding assigned_rule
  run_assigned v after r new is gives = rw (is, set_alike (assign here x v line after) v) gives

  pub run_unset : (f : Stop) → IsRefused (fault_told f) (inner.value e here w)
      → IsRefused (fault_told f) (run (assigned_rule inner x e line here) w)
  unfolding assigned_rule
  run_unset (stop.Fault f) is = rw is refl
  run_unset stop.Memory is = tt

-- ---- statements in order

module _ (inner : Inner) (here : Here) where
  step_alike : (p : Outcome (Option Datum)) (d : Datum) (ss : List Statement)
      → ((e : Datum) (w : World) → forget (statements_from inner e ss here w) ≡ run_from inner ss here w)
      → forget (go_on p (λ given. statements_from inner (or_before given d) ss here))
      ≡ go_on (forget p) (λ _. run_from inner ss here)
  step_alike (Ok p) d ss rest = rest (or_before p.0 d) p.1
  step_alike (Err f) d ss rest = refl

  run_alike : (ss : List Statement) (d : Datum) (w : World)
      → forget (statements_from inner d ss here w) ≡ run_from inner ss here w
  unfolding statements_from run_from
  run_alike [] d w = refl
  run_alike (s ∷ ss) d w = step_alike (statement_rule inner s here w) d ss (run_alike ss)

then_alike : {A B : Type 0} (p : Outcome A) (q : Step B) → go_on p (λ _. q) ≡ go_on (forget p) (λ _. q)
then_alike (Ok p) q = refl
then_alike (Err f) q = refl

-- the main manifest
main_by : (main : File) (x : List ℕ) (w : World)
    → main_rule main x w ≡ go_on (run_from (at_depth 1) main.statements top w) (λ _. nodes_rule main.definitions x)
unfolding main_rule
main_by main x w =
    then_alike (statements_from (at_depth 1) undef main.statements top w) (nodes_rule main.definitions x)
    ∙ ap (λ p. go_on p (λ _. nodes_rule main.definitions x)) (run_alike (at_depth 1) top main.statements undef w)

module _ (left : ℕ) (main : File) (x : List ℕ) (w : World) (is : within left ≡ at_depth 1) where
  first_part : run_from (within left) main.statements top w ≡ run_from (at_depth 1) main.statements top w
  first_part = ap (λ inner. run_from inner main.statements top w) is

  main_from : main_rule main x w
      ≡ go_on (run_from (within left) main.statements top w) (λ _. nodes_rule main.definitions x)
  main_from = rw first_part (main_by main x w)

  pub main_ran : (after : World) (r : Result (Unit {0}) Stop) (new : World)
      → run_from (within left) main.statements top w ≡ Ok (tt, after)
      → Gives nothing (nodes_rule main.definitions x after) r new → Gives nothing (main_rule main x w) r new
  main_ran after r new ran gives = rw (main_from, ran) gives

  pub main_refused : (f : Stop) → IsRefused (fault_told f) (run_from (within left) main.statements top w)
      → IsRefused (fault_told f) (main_rule main x w)
  main_refused (stop.Fault f) refused = rw (main_from, refused) refl
  main_refused stop.Memory refused = tt
