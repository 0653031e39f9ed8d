-- Scopes that were opened, in which owners and declarations stand.
use Rattle.std.proofs.Common.{◌≡◌, ℕ, zero, suc, cond, List, [], ◌∷◌, ◌++◌, Option, None, Some}
use Rattle.std.proofs.Common.{Bool, true, false, Ok, Err, refl, sym, ap, subst, ◌∙◌}
use Rattle.std.specs.BTreeMap.{insert_entry}
use Rattle.std.specs.Cmp.{nat_cmp_total, tied_itself}
use Rattle.std.specs.Ordering.{nat_cmp, is_eq, match_ordering}
use Rattle.std.specs.Prelude.{IsSome, option_map, slice_get, unwrap_or}
use Rattle.std.specs.declared.cmp.Ordering.TheVariants.{Less, Equal, Greater}
use Rattle.override_rules.proofs.Opening.{opened_nested, opened_stays}
use Rattle.override_rules.specs.Defaults.{Scope, parent_of, opened_by}
use Rattle.override_rules.specs.Meaning.{State, scope_opened}
use Rattle.override_rules.specs.Ways.{AreNested, IsWithin, ParentsStay}
use Rattle.res_book.proofs.Growth.{declared-appends}
use Rattle.res_book.proofs.Rows.{KeepsItem, apart-append, apart-change, item_at-change}
use Rattle.res_book.specs.Rows.{class_virtual, declared, declared_as, declared_once, is_class_virtual, is_named}
use Rattle.res_book.specs.Rows.{new_row, number_of, reference_of, with_change}
use Rattle.res_book.specs.declared.mode.Mode.{Mode}
use Rattle.res_book.specs.declared.row.Row.{Row}
use Rattle.pp_values.specs.declared.reference.Reference.{Reference}
use Rattle.res_core.specs.declared.declared.Declared.{Declared}
use Rattle.eval_world.specs.Owners.{Owners, inline_owner, owner_at, owner_of_file, with_file, with_inline, with_owner}
use Rattle.eval_world.specs.declared.owner.Owner.{Owner}
use Rattle.world_laws.specs.Extends.{IsOpened, ArePlaced}

-- ---- one scope

-- a scope that was opened has a parent, or none
parent_stays : (o : Option (Option ℕ)) (old new : List Scope) (s : ℕ) → parent_of old s ≡ o → ParentsStay old new →
    IsSome o → IsSome (parent_of new s)
parent_stays None old new s is stay there = absurd cc
parent_stays (Some p) old new s is stay there = subst IsSome (sym (stay.parents s p is)) refl

pub still_opened : (s t : State) (scope : ℕ) → ParentsStay s.scopes t.scopes → IsOpened s scope → IsOpened t scope
still_opened s t scope stay there = parent_stays (parent_of s.scopes scope) s.scopes t.scopes scope refl stay there

added : List Scope → ℕ → Option ℕ → List Scope
added = insert_entry nat_cmp

parent_here : (scopes : List Scope) (s : ℕ) (p : Option ℕ) → parent_of (added scopes s p) s ≡ Some p
unfolding added
parent_here [] s p = ap (λ o. cond (is_eq o) (Some p) None) (tied_itself nat_cmp_total s)
parent_here (x ∷ xs) s p =
    elim (nat_cmp s x.0) as (λ o. nat_cmp s x.0 ≡ o
    → parent_of (match_ordering o ((s, p) ∷ x ∷ xs) ((x.0, p) ∷ xs) (x ∷ added xs s p)) s ≡ Some p) [
      | Less ↦ λ e. ap (λ o. cond (is_eq o) (Some p) (parent_of (x ∷ xs) s)) (tied_itself nat_cmp_total s)
      | Equal ↦ λ e. ap (λ o. cond (is_eq o) (Some p) (parent_of xs s)) e
      | Greater ↦ λ e. ap (λ o. cond (is_eq o) (Some x.1) (parent_of (added xs s p) s)) e ∙ parent_here xs s p
    ] refl

opened_as : (o : Option (Option ℕ)) (scopes : List Scope) (s : ℕ) (p : Option ℕ) → parent_of scopes s ≡ o →
    IsSome (parent_of (opened_by o scopes s p) s)
unfolding added
opened_as None scopes s p is = subst IsSome (sym (parent_here scopes s p)) refl
opened_as (Some held) scopes s p is = subst IsSome (sym is) refl

-- the one that is opened
pub opened_here : (scope : ℕ) (parent : Option ℕ) (s : State) → IsOpened (scope_opened scope parent s) scope
opened_here scope parent s = opened_as (parent_of s.scopes scope) s.scopes scope parent refl

-- ---- tables that go on

-- what is the same of a list's members and of one more is of all of them
behind : {A B : Type 0} (part : A → B) (P : B → Type 0) (xs : List A) (x : A) →
    ((n : ℕ) (b : B) → option_map part (slice_get xs n) ≡ Some b → P b) → P (part x) → (n : ℕ) (b : B) →
    option_map part (slice_get (xs ++ x ∷ []) n) ≡ Some b → P b
behind part P [] x all one zero b is = subst P (unwrapped is) one where
  unwrapped : {B : Type 0} {a b : B} → Some a ≡ Some b → a ≡ b
  unwrapped e = cc
behind part P [] x all one (suc n) b is = absurd cc
behind part P (y ∷ ys) x all one zero b is = all 0 b is
behind part P (y ∷ ys) x all one (suc n) b is = behind part P ys x (λ m. all (suc m)) one n b is

-- ---- references

none_named : (q : Reference) (rows : List Row) → declared_as q rows ≡ None → number_of q rows ≡ None
none_named q [] none = refl
none_named q (r ∷ rs) none = none_by (is_named q r) refl none (λ more. none_named q rs more) where
  none_by : (b : Bool) → is_named q r ≡ b → cond b (Some r) (declared_as q rs) ≡ None →
      (declared_as q rs ≡ None → number_of q rs ≡ None) →
      cond (is_named q r) (Some 0) (option_map suc (number_of q rs)) ≡ None
  none_by true named one more = absurd cc
  none_by false named none more =
      ap (λ b. cond b (Some 0) (option_map suc (number_of q rs))) named ∙ ap (option_map suc) (more none)

-- what is declared has a reference of its own
new_number : (d : Declared) (m : Mode) (book new : List Row) (n : ℕ) (b : Bool) (o : Option Row) →
    declared_as (reference_of d) book ≡ o → cond b (Err (class_virtual d)) (declared_once d m o book) ≡ Ok (n, new) →
    number_of (reference_of d) book ≡ None
new_number d m book new n true o is e = absurd cc
new_number d m book new n false None is e = none_named (reference_of d) book is
new_number d m book new n false (Some r) is e = absurd cc

-- ---- all of them

module _ (s : State) (owners : Owners) (book : List Row) (placed : ArePlaced s owners book) where
  owner_by : (o : Option Owner) (n : ℕ) → slice_get owners.others n ≡ o → IsOpened s (unwrap_or o owners.main).scope
  owner_by None n is = placed.main
  owner_by (Some x) n is = placed.others n x is

  pub owner_opened : (n : ℕ) → IsOpened s (owner_at n owners).scope
  unfolding owner_at
  owner_opened zero = placed.main
  owner_opened (suc n) = owner_by (slice_get owners.others n) n refl

  -- scopes go on
  pub scopes_placed : (t : State) → ParentsStay s.scopes t.scopes → AreNested t.scopes → ArePlaced t owners book
  scopes_placed t stay nested = record {
    nested = nested;
    top = still_opened s t 0 stay placed.top;
    main = still_opened s t owners.main.scope stay placed.main;
    others = λ n o is. still_opened s t o.scope stay (placed.others n o is);
    items = λ n d is. still_opened s t d.scope stay (placed.items n d is);
    apart = placed.apart;
  }

  -- the same scopes
  pub same_placed : (t : State) → t.scopes ≡ s.scopes → ArePlaced t owners book
  same_placed t same = record {
    nested = subst AreNested (sym same) placed.nested;
    top = opened 0 placed.top;
    main = opened owners.main.scope placed.main;
    others = λ n o is. opened o.scope (placed.others n o is);
    items = λ n d is. opened d.scope (placed.items n d is);
    apart = placed.apart;
  } where
    opened : (scope : ℕ) → IsOpened s scope → IsOpened t scope
    opened scope there = subst (λ scopes. IsSome (parent_of scopes scope)) (sym same) there

  -- one owner more
  pub owner_placed : (x : Owner) → IsOpened s x.scope → ArePlaced s (with_owner x owners) book
  owner_placed x there = record {
    nested = placed.nested;
    top = placed.top;
    main = placed.main;
    others = λ n o is. behind (λ y. y) (λ y. IsOpened s y.scope) owners.others x
        (λ m y e. placed.others m y (sym (itself (slice_get owners.others m)) ∙ e)) there n o
        (itself (slice_get (owners.others ++ x ∷ []) n) ∙ is);
    items = placed.items;
    apart = placed.apart;
  } where
    itself : {A : Type 0} (o : Option A) → option_map (λ y. y) o ≡ o
    itself None = refl
    itself (Some y) = refl

  -- the owner more of what stands in top scope in this file
  pub file_placed : (file : List ℕ) → ArePlaced s (with_file file owners) book
  file_placed file = record {
    nested = more.nested;
    top = more.top;
    main = more.main;
    others = more.others;
    items = more.items;
    apart = more.apart;
  } where
    more : ArePlaced s (with_owner (owner_of_file file owners) owners) book
    more = owner_placed (owner_of_file file owners) placed.main

  -- the owner more of the texts that the code of this owner renders
  pub inline_placed : (number : ℕ) → ArePlaced s (with_inline number owners) book
  inline_placed number = record {
    nested = more.nested;
    top = more.top;
    main = more.main;
    others = more.others;
    items = more.items;
    apart = more.apart;
  } where
    more : ArePlaced s (with_owner (inline_owner number owners) owners) book
    more = owner_placed (inline_owner number owners) (owner_opened number)

  -- one scope more, and its owner
  pub body_placed : (x : Owner) (parent : Option ℕ) → IsWithin s.scopes parent →
      ArePlaced (scope_opened x.scope parent s) owners book
  body_placed x parent within = scopes_placed (scope_opened x.scope parent s) (opened_stays s.scopes x.scope parent)
      (opened_nested s.scopes x.scope parent placed.nested within)

  -- one declaration more
  row_placed : (r : Row) → IsOpened s r.declared.scope → number_of (reference_of r.declared) book ≡ None →
      ArePlaced s owners (book ++ r ∷ [])
  row_placed r there none = record {
    nested = placed.nested;
    top = placed.top;
    main = placed.main;
    others = placed.others;
    items = behind (λ y. y.declared) (λ d. IsOpened s d.scope) book r placed.items there;
    apart = apart-append book r none placed.apart;
  }

  -- one declaration is changed
  pub change_placed : (change : Row → Row) → KeepsItem change → (n : ℕ) → ArePlaced s owners (with_change change n book)
  change_placed change keeps n = record {
    nested = placed.nested;
    top = placed.top;
    main = placed.main;
    others = placed.others;
    items = λ m d is. placed.items m d (sym (item_at-change change keeps m n book) ∙ is);
    apart = apart-change change keeps n book placed.apart;
  }

  pub declared_placed : (d : Declared) (m : Mode) (n : ℕ) (new : List Row) → declared d m book ≡ Ok (n, new) →
      IsOpened s d.scope → ArePlaced s owners new
  declared_placed d m n new is there =
      subst (ArePlaced s owners) (sym (declared-appends d m book new n is).1)
      (row_placed (new_row d m) there (new_number d m book new n (is_class_virtual d m)
      (declared_as (reference_of d) book) refl is))
