-- The turns of a look-up from scope to scope.
use Rattle.std.proofs.Common.{◌≡◌, ℕ, zero, suc, ◌+◌, ◌-◌, ◌<◌, ◌≤◌}
use Rattle.std.proofs.Common.{Option, None, Some, refl, arith}
use Rattle.std.specs.Option.{option_or}
use Rattle.scope_core.specs.Names.{Name}
use Rattle.scope_core.specs.Scopes.{Scopes, own, next, seen_from}

module _ (x : Name) (s : Scopes) where
  pub seen_some : (n turn number : ℕ) → turn < n
      → seen_from (n - turn) (Some number) x s
      ≡ option_or (own number x s) (seen_from (n - (turn + 1)) (next number s) x s)
  unfolding seen_from
  seen_some n turn number below = let is : n - turn ≡ suc (n - (turn + 1)) = omega arith in rw is refl

  none_at : (k : ℕ) → seen_from k None x s ≡ None
  unfolding seen_from
  none_at zero = refl
  none_at (suc k) = refl

  pub seen_none : (n turn : ℕ) → seen_from (n - turn) None x s ≡ None
  seen_none n turn = none_at (n - turn)

  pub seen_end : (n turn : ℕ) (at : Option ℕ) → n ≤ turn → seen_from (n - turn) at x s ≡ None
  unfolding seen_from
  seen_end n turn at done = let is : n - turn ≡ zero = omega arith in rw is refl
