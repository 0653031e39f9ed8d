-- Steps that grow, and what is made of them.
use Rattle.std.proofs.Common.{ℕ, ◌≤◌, Bool, true, false, length, Result, Ok, Err, arith}
use Rattle.std.specs.Prelude.{if◌then◌else◌}
use Rattle.pp_values.specs.Datum.{Datum}
use Rattle.pp_values.specs.declared.fault.Fault.{Fault}
use Rattle.eval_world.specs.Outcomes.{Outcome, Step, go_on, ◌>>=◌, ◌>>◌, pure, answered}
use Rattle.eval_world.specs.Worlds.{leave}
use Rattle.eval_world.specs.declared.here.Here.{Here}
use Rattle.eval_world.specs.declared.world.World.{World}
use Rattle.world_laws.specs.Extends.{Extends}
use Rattle.world_laws.specs.Growing.{Reaches, Grows}
use Rattle.world_laws.proofs.Worlds.{same_world, extends_on, left_again}

module _ {A : Type 0} where
  -- what a world reaches that extends another one, the other one reaches
  pub reached_from : (w v : World) → Extends w v → (o : Outcome A) → Reaches v o → Reaches w o
  reached_from w v f (Ok p) r = extends_on w v p.1 f r
  reached_from w v f (Err e) r = tt

  -- ---- steps that change nothing

  pub answers : (w : World) (r : Result A Fault) → Reaches w (answered r w)
  answers w (Ok a) = same_world w
  answers w (Err e) = tt

  pub pure_grows : {a : A} → Grows (pure a)
  pure_grows = record { reaches = same_world }

  pub answer_grows : (r : World → Result A Fault) → Grows (λ w. answered (r w) w)
  answer_grows r = record { reaches = λ w. answers w (r w) }

  pub fault_grows : (f : World → Fault) → Grows {A = A} (λ w. Err (f w))
  fault_grows f = record { reaches = λ w. tt }

  -- a step that is chosen by the world
  pub told : (f : World → Step A) → ((w : World) → Grows (f w)) → Grows (λ w. f w w)
  told f g = record { reaches = λ w. (g w).reaches w }

  -- ---- a choice

  pub either : (b : Bool) {p q : Step A} → Grows p → Grows q → Grows (if b then p else q)
  either true f g = f
  either false f g = g

module _ {A B : Type 0} where
  -- the next step is taken in the world that there is
  pub from_answer : (w : World) (r : Result A Fault) (next : A → Step B) → ((a : A) → Reaches w (next a w)) →
      Reaches w (go_on (answered r w) next)
  from_answer w (Ok a) next f = f a
  from_answer w (Err e) next f = tt

  pub from_there : (w : World) (o : Outcome A) (next : A → Step B) → Reaches w o → ((a : A) → Grows (next a)) →
      Reaches w (go_on o next)
  from_there w (Ok p) next r g = reached_from w p.1 r (next p.0 p.1) ((g p.0).reaches p.1)
  from_there w (Err e) next r g = tt

  -- one step, and then the next one
  pub and_then : {p : Step A} {next : A → Step B} → Grows p → ((a : A) → Grows (next a)) → Grows (p >>= next)
  and_then {p = p} {next = next} f g = record { reaches = λ w. from_there w (p w) next (f.reaches w) g }

-- ---- scopes of calls

-- what is done in a scope that was not there before, and ends then
pub ends : (w v : World) (own : Here) (o : Outcome Datum) → Extends w v → length w.scopes.scopes ≤ own.scope.number →
    Reaches v o → Reaches w (go_on o (λ d. leave own >> pure d))
ends w v own (Ok p) f past r = left_again w p.1 own.scope.number past (extends_on w v p.1 f r)
ends w v own (Err e) f past r = tt

pub not_less : (n : ℕ) → n ≤ n
not_less n = omega arith
