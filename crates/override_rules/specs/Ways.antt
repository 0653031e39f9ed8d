-- The way out from a scope over its dynamic parents, and how the scopes that were opened go on.
use Rattle.std.specs.Prelude.{◌≡◌, ◌≤◌, ℕ, zero, suc, List, [], ◌∷◌, length, Option, None, Some, IsSome}
use Rattle.override_rules.specs.Defaults.{Scope, parent_of}

-- the scopes that were opened among those on the way out from a scope, over this many at most
abbrev pub way_from : Option (Option ℕ) → ℕ → (Option ℕ → List ℕ) → List ℕ
way_from None s outer = []
way_from (Some parent) s outer = s ∷ outer parent

unfoldable pub way_within : ℕ → List Scope → Option ℕ → List ℕ
way_within zero scopes from = []
way_within (suc left) scopes None = []
way_within (suc left) scopes (Some s) = way_from (parent_of scopes s) s (way_within left scopes)

-- a scope with no parent is the last one
abbrev pub way_out : List Scope → ℕ → List ℕ
way_out scopes s = way_within (length scopes) scopes (Some s)

-- Scopes go on: each that was opened keeps its dynamic parent, and they get no fewer.
pub record ParentsStay (old new : List Scope) : Type 0 where
  pub longer : length old ≤ length new
  pub parents : (s : ℕ) (p : Option ℕ) → parent_of old s ≡ Some p → parent_of new s ≡ Some p

-- a parent, where there is one, was opened
abbrev pub IsWithin : List Scope → Option ℕ → Type 0
IsWithin scopes None = Unit {0}
IsWithin scopes (Some p) = IsSome (parent_of scopes p)

-- each parent was opened, and no way out has more scopes than there are
pub record AreNested (scopes : List Scope) : Type 0 where
  pub parents : (s : ℕ) (p : Option ℕ) → parent_of scopes s ≡ Some p → IsWithin scopes p
  pub enough : (left s : ℕ) → length scopes ≤ left → way_within left scopes (Some s) ≡ way_out scopes s
