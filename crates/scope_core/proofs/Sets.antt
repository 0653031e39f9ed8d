-- A scope that is put back where it stood.
use Rattle.std.proofs.Common.{◌≡◌, ℕ, zero, suc, List, [], ◌∷◌, Bool, true, false}
use Rattle.std.proofs.Common.{◌&&◌, ◌||◌, true≢false, Option, None, Some, is_some, refl, ap, sym, if◌then◌else◌}
use Rattle.std.specs.Prelude.{slice_get, slice_set}
use Rattle.pp_values.specs.Datum.{Datum}
use Rattle.scope_core.specs.Names.{Name, with_value}
use Rattle.scope_core.specs.Scopes.{Scope, Scopes, is_kept, is_set, own, set_in}

held : Scope → Option Scope → Scope
held other None = other
held other (Some s) = s

set_back : (scopes : List Scope) (n : ℕ) (s : Scope) → slice_get scopes n ≡ Some s → slice_set scopes n s ≡ scopes
unfolding held
set_back [] n s there = refl
set_back (x ∷ xs) zero s there = ap (λ y. y ∷ xs) (sym (ap (held x) there))
set_back (x ∷ xs) (suc n) s there = ap (λ ys. x ∷ ys) (set_back xs n s there)

-- what setting a name in one of them made of all
pub set_or_back : (scopes : List Scope) (n : ℕ) (s new : Scope) (went : Bool) (x : Name) (d : Datum)
    → slice_get scopes n ≡ Some s
    → new ≡ (if went then record s { names = with_value x d s.names } else s)
    → slice_set scopes n new ≡ (if went then set_in n x d (slice_get scopes n) scopes else scopes)
set_or_back scopes n s new true x d there is = rw (there, is) refl
set_or_back scopes n s new false x d there is = rw is (set_back scopes n s there)

none_of : {T : Type 0} (o : Option T) (b : Bool) → (is_some o || b) ≡ false → o ≡ None
none_of None b is = refl
none_of (Some v) b is = absurd (true≢false is)

-- a name that may be set has no value in the scope
pub not_set : (n : ℕ) (x : Name) (s : Scopes) → is_set n x s ≡ false → own n x s ≡ None
not_set n x s is = none_of (own n x s) (is_kept x && is_some (own 0 x s)) is
