-- The step that sets a variable, from whether the scopes took the name.
use Rattle.std.proofs.Common.{◌≡◌, ℕ, true, false, List, Ok, Err, refl}
use Rattle.pp_values.specs.Datum.{Datum}
use Rattle.pp_values.specs.Faults.{fault}
use Rattle.pp_values.specs.declared.fault.What.TheVariants as what
use Rattle.pp_values.specs.declared.place.Place.{Place}
use Rattle.scope_core.specs.Scopes as scopes
use Rattle.scope_core.specs.Scopes.{Scopes}
use Rattle.eval_world.specs.Worlds.{assign, assign_at, place_at}
use Rattle.eval_world.specs.declared.here.Here.{Here}
use Rattle.eval_world.specs.declared.world.World.{World}

module _ (here : Here) (x : List ℕ) (d : Datum) (line : ℕ) (w : World) where
  pub set_here : (s : Scopes) → scopes.is_set here.scope.number x w.scopes ≡ false
      → s ≡ scopes.with_name here.scope.number x d w.scopes
      → assign here x d line w ≡ Ok (tt, record w { scopes = s })
  unfolding scopes.assign assign
  set_here s free is = rw (free, is) refl

  pub refused_here : scopes.is_set here.scope.number x w.scopes ≡ true
      → assign here x d line w ≡ Err (fault (place_at w here line) (what.Reassigned x))
  unfolding scopes.assign assign
  refused_here taken = rw taken refl

-- the same where the fault has its place
module _ (here : Here) (x : List ℕ) (d : Datum) (at : Place) (w : World) where
  pub set_there : (s : Scopes) → scopes.is_set here.scope.number x w.scopes ≡ false
      → s ≡ scopes.with_name here.scope.number x d w.scopes
      → assign_at here x d at w ≡ Ok (tt, record w { scopes = s })
  unfolding scopes.assign assign_at
  set_there s free is = rw (free, is) refl

  pub refused_there : scopes.is_set here.scope.number x w.scopes ≡ true
      → assign_at here x d at w ≡ Err (fault at (what.Reassigned x))
  unfolding scopes.assign assign_at
  refused_there taken = rw taken refl
