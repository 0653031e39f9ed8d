-- Ways over the parents of classes that come back to a class.
use Rattle.std.proofs.Common.{◌≡◌, ℕ, zero, suc, ◌-◌, ◌≤◌, false, List}
use Rattle.std.proofs.Common.{Option, None, Some, refl, ap, ◌∙◌, arith}
use Rattle.std.specs.Str.{bytes_eq}
use Rattle.eval_world.specs.Environment.{Environment}
use Rattle.eval_classes.specs.Definitions.{comes_to, parent_at}

module _ (m : Environment) (name : List ℕ) where
  pub none_at : (k : ℕ) → comes_to k m name None ≡ false
  unfolding comes_to
  none_at zero = refl
  none_at (suc k) = refl

  -- ---- ways that come back

  -- so many steps lead from the first of these to the second, and none of those that are passed has the name
  Leads : ℕ → List ℕ → Option (List ℕ) → Type 0
  Leads steps from at = (n : ℕ) → comes_to n m name (Some from) ≡ comes_to (n - steps) m name at

  one_step : (at : List ℕ) → bytes_eq at name ≡ false → Leads 1 at (parent_at m at)
  unfolding Leads comes_to
  one_step at other zero = refl
  one_step at other (suc n) = let is : suc n - 1 ≡ n = omega arith in rw (is, other) refl

  step_on : (steps : ℕ) (from at : List ℕ) → Leads steps from (Some at) → bytes_eq at name ≡ false
      → Leads (suc steps) from (parent_at m at)
  unfolding Leads
  step_on steps from at leads other n =
      let is : n - steps - 1 ≡ n - suc steps = omega arith in
      leads n ∙ one_step at other (n - steps) ∙ ap (λ k. comes_to k m name (parent_at m at)) is

  goes_round : (most n steps : ℕ) (from : List ℕ) → n ≤ most → Leads (suc steps) from (Some from)
      → comes_to n m name (Some from) ≡ false
  unfolding Leads comes_to
  goes_round zero n steps from small leads = let is : n ≡ zero = omega arith in rw is refl
  goes_round (suc most) n steps from small leads =
      leads n ∙ goes_round most (n - suc steps) steps from (omega arith) leads

  -- one that was passed, and from which one step or more led here
  pub IsBehind : Option (List ℕ) → Option (List ℕ) → Type 0
  IsBehind None at = Unit {0}
  IsBehind (Some from) at = (steps : ℕ) × Leads (suc steps) from at

  pub none_marked : (at : Option (List ℕ)) → IsBehind None at
  unfolding IsBehind
  none_marked at = tt

  pub marked : (at : List ℕ) → bytes_eq at name ≡ false → IsBehind (Some at) (parent_at m at)
  unfolding IsBehind
  marked at other = (0, one_step at other)

  pub mark_stays : (mark : Option (List ℕ)) (at : List ℕ) → IsBehind mark (Some at) → bytes_eq at name ≡ false
      → IsBehind mark (parent_at m at)
  unfolding IsBehind Leads
  mark_stays None at behind other = tt
  mark_stays (Some from) at behind other = (suc behind.0, step_on (suc behind.0) from at behind.1 other)

  -- a way that has come back to one that it passed goes round for ever
  pub came_back : (at : List ℕ) (n : ℕ) → IsBehind (Some at) (Some at) → comes_to n m name (Some at) ≡ false
  unfolding IsBehind
  came_back at n behind = goes_round n n behind.0 at (omega arith) behind.1
