-- What extends what, and what does not.
use Rattle.std.specs.Prelude.{◌≡◌, ℕ, Bool, true, false, List, [], ◌∷◌, Some, refl, codes}
use Rattle.pp_values.specs.Datum as d
use Rattle.pp_values.specs.Datum.{Datum}
use Rattle.scope_core.specs.Names.{Name}
use Rattle.scope_core.specs.Scopes.{Scope}
use Rattle.scope_core.specs.declared.owner.Owner.{Owner}
use Rattle.scope_core.specs.declared.owner.Owner.TheVariants as o
use Rattle.eval_world.specs.Environment.{Environment}
use Rattle.eval_world.specs.Worlds.{empty, leave, top}
use Rattle.eval_world.specs.declared.world.World.{World}
use Rattle.world_laws.specs.Extends.{GoesOn, IsKept, AreKept}
use Rattle.world_laws.specs.Growing.{Grows}

-- ---- lists

one_more : GoesOn {A = ℕ} (1 ∷ 2 ∷ []) (1 ∷ 2 ∷ 3 ∷ [])
one_more = record { more = 3 ∷ []; is = refl }

not_less : GoesOn {A = ℕ} (1 ∷ []) [] → ⊥
not_less f = let is : [] ≡ 1 ∷ f.more = f.is in absurd cc

not_in_front : GoesOn {A = ℕ} (2 ∷ []) (1 ∷ 2 ∷ []) → ⊥
not_in_front f = let is : 1 ∷ 2 ∷ [] ≡ 2 ∷ f.more = f.is in absurd cc

-- ---- scopes

scope : Owner → List (Name × Datum) → Scope
scope owner names = record { owner = owner; parent = 0; names = names }

x : Bool → Name × Datum
x b = (codes "x", d.flag b)

name_more : IsKept (scope o.Top []) (scope o.Top (x true ∷ []))
unfolding scope x
name_more = record { owner = refl; parent = refl; names = λ y v e. absurd cc }

not_changed : IsKept (scope o.Top (x true ∷ [])) (scope o.Top (x false ∷ [])) → ⊥
unfolding scope x
not_changed f = let is : Some (d.flag false) ≡ Some (d.flag true) = f.names (codes "x") (d.flag true) refl in absurd cc

not_lost : AreKept (scope o.Top [] ∷ []) [] → ⊥
unfolding AreKept
not_lost f = f

-- ---- worlds

-- a lambda's scope and that of a class behind it
called : Environment → World
called e = record (empty e) {
  scopes = record { scopes = scope o.Lambda (x true ∷ []) ∷ scope o.Class [] ∷ []; node = 0; classes = [] };
}

-- the end of a lambda's scope is no growth by itself
not_left : (e : Environment) → Grows (leave top) → ⊥
unfolding AreKept called scope x
not_left e f =
    let kept : IsKept (scope o.Lambda (x true ∷ [])) (record { owner = o.Ended; parent = 0; names = [] }) =
    (f.reaches (called e)).scopes.0 in
    let is : o.Ended ≡ o.Lambda = kept.owner in absurd cc
