-- How the world of a compile grows: nothing that was put into it is taken out, and nothing replaced but which
-- parameters are kept of a declaration.
use Rattle.std.specs.Prelude.{◌≡◌, ◌≤◌, ℕ, Bool, List, [], ◌∷◌, ◌++◌, length, Some, IsSome, IsTrue, slice_get}
use Rattle.pp_values.specs.Datum.{Datum}
use Rattle.override_rules.specs.Defaults.{default_in, defaults_for, parent_of}
use Rattle.override_rules.specs.Meaning.{State}
use Rattle.override_rules.specs.Ways.{AreNested, ParentsStay}
use Rattle.res_book.specs.Growth as rows
use Rattle.res_book.specs.Relations.{Related, is_applied}
use Rattle.res_book.specs.Rows.{AreApart, item_at, passes}
use Rattle.res_book.specs.declared.row.Row.{Row}
use Rattle.res_core.specs.declared.declared.Declared.{Declared}
use Rattle.scope_core.specs.Names.{Name, value_of}
use Rattle.scope_core.specs.Scopes.{Scope}
use Rattle.eval_world.specs.Owners.{Owners}
use Rattle.eval_world.specs.declared.owner.Owner.{Owner}
use Rattle.eval_world.specs.declared.world.World.{World}

-- what was in a list stays, and what is new stands behind it
pub record GoesOn {A : Type 0} (old new : List A) : Type 0 where
  pub more : List A
  pub is : new ≡ old ++ more

-- ---- scopes

-- A scope belongs to what it belonged to, and was entered from the same scope. A name that had a value has that value.
pub record IsKept (old new : Scope) : Type 0 where
  pub owner : new.owner ≡ old.owner
  pub parent : new.parent ≡ old.parent
  pub names : (x : Name) (d : Datum) → value_of x old.names ≡ Some d → value_of x new.names ≡ Some d

-- number by number, the old ones are the first of the new ones, and kept
unfoldable pub AreKept : List Scope → List Scope → Type 0
AreKept [] new = Unit {0}
AreKept (s ∷ ss) [] = ⊥
AreKept (s ∷ ss) (t ∷ ts) = IsKept s t × AreKept ss ts

-- ---- the other tables

-- the main manifest's owner is the same, and all others have the numbers that they had
pub record OwnersStay (old new : Owners) : Type 0 where
  pub main : new.main ≡ old.main
  pub others : GoesOn old.others new.others

-- Override lines go on. What a scope says by a default statement for an attribute of a kind, it goes on to say. The
-- defaults for a kind get no fewer, and where they are as many they are the same. A scope's dynamic parent stays.
pub record OverridesStay (old new : State) : Type 0 where
  pub lines : GoesOn old.lines new.lines
  pub defaults : (kind : List ℕ) (scope : ℕ) (name : List ℕ) (d : Datum) →
      default_in old.defaults kind scope name ≡ Some d → default_in new.defaults kind scope name ≡ Some d
  pub more : (kind : List ℕ) → length (defaults_for kind old.defaults) ≤ length (defaults_for kind new.defaults)
  pub as_many : (kind : List ℕ) →
      length (defaults_for kind new.defaults) ≡ length (defaults_for kind old.defaults) →
      defaults_for kind new.defaults ≡ defaults_for kind old.defaults
  pub parents : ParentsStay old.scopes new.scopes

-- Relation lines, pairs of `contain` and collectors go on. A block that was applied to a declaration stays applied to
-- it.
pub record RelationsGoOn (old new : Related) : Type 0 where
  pub lines : GoesOn old.lines new.lines
  pub containments : GoesOn old.containments new.containments
  pub collectors : GoesOn old.collectors new.collectors
  pub applied : (c n : ℕ) → IsTrue (is_applied c n old) → IsTrue (is_applied c n new)

-- ---- the book

-- whether the declaration of this number has a mark
abbrev pub is_marked_at : List Row → ℕ → Bool
is_marked_at rows n = passes (λ r. r.marked) (slice_get rows n)

-- marks stay
abbrev pub MarksStay : List Row → List Row → Type 0
MarksStay old new = (n : ℕ) → IsTrue (is_marked_at old n) → IsTrue (is_marked_at new n)

-- ---- where things stand

-- the overrides know the scope and its dynamic parent
abbrev pub IsOpened : State → ℕ → Type 0
IsOpened s scope = IsSome (parent_of s.scopes scope)

-- Each scope was opened after its dynamic parent. Top scope was opened, and so was the scope of each owner and of each
-- declaration. No two declarations have the same reference.
pub record ArePlaced (s : State) (owners : Owners) (book : List Row) : Type 0 where
  pub nested : AreNested s.scopes
  pub top : IsOpened s 0
  pub main : IsOpened s owners.main.scope
  pub others : (n : ℕ) (o : Owner) → slice_get owners.others n ≡ Some o → IsOpened s o.scope
  pub items : (n : ℕ) (d : Declared) → item_at book n ≡ Some d → IsOpened s d.scope
  pub apart : AreApart book

abbrev pub IsPlaced : World → Type 0
IsPlaced w = ArePlaced w.overrides w.owners w.book

-- ---- all of it

-- One world extends another one. What becomes of the declarations is what becomes of a book, and marks stay. Where all
-- stands in scopes that were opened, it goes on to do so. Of what a template has emitted so far nothing is said.
pub record Extends (old new : World) : Type 0 where
  pub environment : new.environment ≡ old.environment
  pub declarations : rows.Grows old.book new.book
  pub marks : MarksStay old.book new.book
  pub scopes : AreKept old.scopes.scopes new.scopes.scopes
  pub owners : OwnersStay old.owners new.owners
  pub overrides : OverridesStay old.overrides new.overrides
  pub relations : RelationsGoOn old.relations new.relations
  pub log : GoesOn old.log new.log
  pub placed : IsPlaced old → IsPlaced new
