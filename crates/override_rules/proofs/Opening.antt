-- Scopes that are opened: whose parents stay, and which ways out.
use Rattle.std.proofs.Common.{◌≡◌, ◌∙◌, ◌≤◌, ℕ, zero, suc, Bool, true, false, cond, List, [], ◌∷◌, length}
use Rattle.std.proofs.Common.{Option, None, Some, refl, sym, ap, subst, arith, true≢false}
use Rattle.std.specs.BTreeMap.{insert_entry, is_at}
use Rattle.std.specs.Cmp.{nat_cmp_total, tied_itself}
use Rattle.std.specs.FinMap.{nat_cmp-IsAntisymmetric}
use Rattle.std.specs.Map.{lookup}
use Rattle.std.specs.Ordering.{nat_cmp, is_eq, match_ordering}
use Rattle.std.specs.Prelude.{IsSome}
use Rattle.std.specs.declared.cmp.Ordering.{Ordering}
use Rattle.std.specs.declared.cmp.Ordering.TheVariants.{Less, Equal, Greater}
use Rattle.override_rules.specs.Defaults.{Scope, parent_of, opened_by, with_scope}
use Rattle.override_rules.specs.Ways.{AreNested, IsWithin, ParentsStay, way_from, way_within, way_out}

-- ---- one scope more, of a number that was not there

added : List Scope → ℕ → Option ℕ → List Scope
added = insert_entry nat_cmp

parent_here : (scopes : List Scope) (s : ℕ) (p : Option ℕ) → parent_of (added scopes s p) s ≡ Some p
unfolding added
parent_here [] s p = ap (λ o. cond (is_eq o) (Some p) None) (tied_itself nat_cmp_total s)
parent_here (x ∷ xs) s p =
    elim (nat_cmp s x.0) as (λ o. nat_cmp s x.0 ≡ o
    → parent_of (match_ordering o ((s, p) ∷ x ∷ xs) ((x.0, p) ∷ xs) (x ∷ added xs s p)) s ≡ Some p) [
      | Less ↦ λ e. ap (λ o. cond (is_eq o) (Some p) (parent_of (x ∷ xs) s)) (tied_itself nat_cmp_total s)
      | Equal ↦ λ e. ap (λ o. cond (is_eq o) (Some p) (parent_of xs s)) e
      | Greater ↦ λ e. ap (λ o. cond (is_eq o) (Some x.1) (parent_of (added xs s p) s)) e ∙ parent_here xs s p
    ] refl

parent_other : (scopes : List Scope) (s q : ℕ) (p : Option ℕ) → is_eq (nat_cmp q s) ≡ false
    → parent_of (added scopes s p) q ≡ parent_of scopes q
unfolding added
parent_other [] s q p apart = ap (λ b. cond b (Some p) None) apart
parent_other (x ∷ xs) s q p apart =
    elim (nat_cmp s x.0) as (λ o. nat_cmp s x.0 ≡ o
    → parent_of (match_ordering o ((s, p) ∷ x ∷ xs) ((x.0, p) ∷ xs) (x ∷ added xs s p)) q ≡ parent_of (x ∷ xs) q) [
      | Less ↦ λ e. ap (λ b. cond b (Some p) (parent_of (x ∷ xs) q)) apart
      | Equal ↦ λ e.
          let other : is_eq (nat_cmp q x.0) ≡ false =
          subst (λ y. is_eq (nat_cmp q y) ≡ false) (nat_cmp-IsAntisymmetric s x.0 e) apart in
          ap (λ b. cond b (Some p) (parent_of xs q)) other ∙ sym (ap (λ b. cond b (Some x.1) (parent_of xs q)) other)
      | Greater ↦ λ e. ap (cond (is_eq (nat_cmp q x.0)) (Some x.1)) (parent_other xs s q p apart)
    ] refl

apart_first : {X : Type 0} (b : Bool) (x : X) (o : Option X) → cond b (Some x) o ≡ None → (b ≡ false) × (o ≡ None)
apart_first true x o e = absurd cc
apart_first false x o e = (refl, e)

one_more : (scopes : List Scope) (s : ℕ) (p : Option ℕ) → parent_of scopes s ≡ None
    → length (added scopes s p) ≡ suc (length scopes)
unfolding added
one_more [] s p none = refl
one_more (x ∷ xs) s p none =
    let parts = apart_first (is_eq (nat_cmp s x.0)) x.1 (parent_of xs s) none in
    elim (nat_cmp s x.0) as (λ o. is_eq o ≡ false
    → length (match_ordering o ((s, p) ∷ x ∷ xs) ((x.0, p) ∷ xs) (x ∷ added xs s p)) ≡ suc (suc (length xs))) [
      | Less ↦ λ e. refl
      | Equal ↦ λ e. absurd cc
      | Greater ↦ λ e. ap suc (one_more xs s p parts.1)
    ] parts.0

tie : (o : Ordering) → is_eq o ≡ true → o ≡ Equal
tie Less e = absurd (true≢false (sym e))
tie Equal e = refl
tie Greater e = absurd (true≢false (sym e))

same_number : (q s : ℕ) → is_eq (nat_cmp q s) ≡ true → q ≡ s
same_number q s e = nat_cmp-IsAntisymmetric q s (tie (nat_cmp q s) e)

-- ---- parents stay

kept_by : (b : Bool) (scopes : List Scope) (s q : ℕ) (p parent : Option ℕ) → is_eq (nat_cmp q s) ≡ b
    → parent_of scopes s ≡ None → parent_of scopes q ≡ Some parent → parent_of (added scopes s p) q ≡ Some parent
kept_by true scopes s q p parent is none e =
    let here : parent_of scopes q ≡ None = subst (λ y. parent_of scopes y ≡ None) (sym (same_number q s is)) none in
    absurd cc
kept_by false scopes s q p parent is none e = parent_other scopes s q p is ∙ e

added_stays : (scopes : List Scope) (s : ℕ) (p : Option ℕ) → parent_of scopes s ≡ None
    → ParentsStay scopes (added scopes s p)
added_stays scopes s p none = record {
  longer = let one = one_more scopes s p none in omega (arith, one);
  parents = λ q parent. kept_by (is_eq (nat_cmp q s)) scopes s q p parent refl none;
}

pub same_scopes : (scopes : List Scope) → ParentsStay scopes scopes
same_scopes scopes = record { longer = omega arith; parents = λ q parent e. e }

pub scopes_on : {a b c : List Scope} → ParentsStay a b → ParentsStay b c → ParentsStay a c
scopes_on f g = record {
  longer = let x = f.longer in let y = g.longer in omega (arith, x, y);
  parents = λ q parent e. g.parents q parent (f.parents q parent e);
}

opened_as : (o : Option (Option ℕ)) (scopes : List Scope) (s : ℕ) (p : Option ℕ) → parent_of scopes s ≡ o
    → ParentsStay scopes (opened_by o scopes s p)
unfolding added
opened_as None scopes s p e = added_stays scopes s p e
opened_as (Some held) scopes s p e = same_scopes scopes

pub opened_stays : (scopes : List Scope) (s : ℕ) (p : Option ℕ) → ParentsStay scopes (with_scope scopes s p)
opened_stays scopes s p = opened_as (parent_of scopes s) scopes s p refl

-- ---- ways out

pub none_nested : AreNested []
unfolding way_within
none_nested = record { parents = λ s p e. absurd cc; enough = λ left s more. none_far left s } where
  none_far : (left s : ℕ) → way_within left [] (Some s) ≡ []
  none_far zero s = refl
  none_far (suc left) s = refl

module _ (old new : List Scope) (nested : AreNested old) (stay : ParentsStay old new) where
  same_step : (o : Option (Option ℕ)) (left s : ℕ) → parent_of old s ≡ o → IsSome o
      → ((p : Option ℕ) → IsWithin old p → way_within left new p ≡ way_within left old p)
      → way_within (suc left) new (Some s) ≡ way_within (suc left) old (Some s)
  unfolding way_within
  same_step None left s e there further = absurd cc
  same_step (Some p) left s e there further =
      ap (λ o. way_from o s (way_within left new)) (stay.parents s p e)
      ∙ ap (λ l. s ∷ l) (further p (nested.parents s p e))
      ∙ sym (ap (λ o. way_from o s (way_within left old)) e)

  pub same_way : (left : ℕ) (from : Option ℕ) → IsWithin old from → way_within left new from ≡ way_within left old from
  unfolding way_within
  same_way zero from there = refl
  same_way (suc left) None there = refl
  same_way (suc left) (Some s) there = same_step (parent_of old s) left s refl there (λ p. same_way left p)

  pub way_stays : (s : ℕ) → IsSome (parent_of old s) → way_out new s ≡ way_out old s
  way_stays s there = same_way (length new) (Some s) there ∙ nested.enough (length new) s stay.longer

-- ---- scopes that are opened after their parents

within_on : {old new : List Scope} (p : Option ℕ) → ParentsStay old new → IsWithin old p → IsWithin new p
within_on None stay there = tt
within_on {old = old} {new = new} (Some p) stay there = some_on (parent_of old p) refl there where
  some_on : (o : Option (Option ℕ)) → parent_of old p ≡ o → IsSome o → IsSome (parent_of new p)
  some_on None e is = absurd cc
  some_on (Some q) e is = subst IsSome (sym (stay.parents p q e)) refl

module _ (scopes : List Scope) (s : ℕ) (p : Option ℕ) (nested : AreNested scopes) (fresh : parent_of scopes s ≡ None)
    (within : IsWithin scopes p) where
  stay : ParentsStay scopes (added scopes s p)
  stay = added_stays scopes s p fresh

  parent_by : (b : Bool) (x : ℕ) (q : Option ℕ) → is_eq (nat_cmp x s) ≡ b → parent_of (added scopes s p) x ≡ Some q
      → IsWithin (added scopes s p) q
  parent_by true x q is e =
      let here : parent_of (added scopes s p) x ≡ Some p =
      subst (λ y. parent_of (added scopes s p) y ≡ Some p) (sym (same_number x s is)) (parent_here scopes s p) in
      let same : p ≡ q = cc in
      subst (IsWithin (added scopes s p)) same (within_on p stay within)
  parent_by false x q is e =
      within_on q stay (nested.parents x q (sym (parent_other scopes s x p is) ∙ e))

  enough_from : (left : ℕ) (from : Option ℕ) → length scopes ≤ left → IsWithin scopes from
      → way_within left scopes from ≡ way_within (length scopes) scopes from
  unfolding way_within
  enough_from left None more there = nowhere left ∙ sym (nowhere (length scopes)) where
    nowhere : (n : ℕ) → way_within n scopes None ≡ []
    nowhere zero = refl
    nowhere (suc n) = refl
  enough_from left (Some q) more there = nested.enough left q more

  way_here : (left : ℕ) → length scopes ≤ left
      → way_within (suc left) (added scopes s p) (Some s) ≡ s ∷ way_within (length scopes) scopes p
  unfolding way_within
  way_here left more =
      ap (λ o. way_from o s (way_within left (added scopes s p))) (parent_here scopes s p)
      ∙ ap (λ l. s ∷ l) (same_way scopes (added scopes s p) nested stay left p within ∙ enough_from left p more within)

  way_nowhere : (left x : ℕ) → parent_of (added scopes s p) x ≡ None
      → way_within (suc left) (added scopes s p) (Some x) ≡ []
  unfolding way_within
  way_nowhere left x e = ap (λ o. way_from o x (way_within left (added scopes s p))) e

  way_there : (left x : ℕ) → length scopes ≤ left → IsSome (parent_of scopes x)
      → way_within left (added scopes s p) (Some x) ≡ way_out scopes x
  way_there left x more there =
      same_way scopes (added scopes s p) nested stay left (Some x) there ∙ nested.enough left x more

  both_ways : (o : Option (Option ℕ)) (b : Bool) (left x : ℕ) → parent_of scopes x ≡ o → is_eq (nat_cmp x s) ≡ b
      → length scopes ≤ left
      → way_within (suc left) (added scopes s p) (Some x)
      ≡ way_within (suc (length scopes)) (added scopes s p) (Some x)
  both_ways (Some q) b left x e is more =
      let there : IsSome (parent_of scopes x) = subst IsSome (sym e) refl in
      way_there (suc left) x (omega (arith, more)) there
      ∙ sym (way_there (suc (length scopes)) x (omega arith) there)
  both_ways None true left x e is more =
      subst (λ y. way_within (suc left) (added scopes s p) (Some y)
      ≡ way_within (suc (length scopes)) (added scopes s p) (Some y)) (sym (same_number x s is))
      (way_here left more ∙ sym (way_here (length scopes) (omega arith)))
  both_ways None false left x e is more =
      let none : parent_of (added scopes s p) x ≡ None = parent_other scopes s x p is ∙ e in
      way_nowhere left x none ∙ sym (way_nowhere (length scopes) x none)

  enough_by : (left x : ℕ) → length (added scopes s p) ≤ left
      → way_within left (added scopes s p) (Some x) ≡ way_out (added scopes s p) x
  enough_by zero x more = absurd (let one = one_more scopes s p fresh in omega (arith, one, more))
  enough_by (suc left) x more =
      let one = one_more scopes s p fresh in
      both_ways (parent_of scopes x) (is_eq (nat_cmp x s)) left x refl refl (omega (arith, one, more))
      ∙ ap (λ n. way_within n (added scopes s p) (Some x)) (sym one)

  added_nested : AreNested (added scopes s p)
  added_nested = record {
    parents = λ x q e. parent_by (is_eq (nat_cmp x s)) x q refl e;
    enough = enough_by;
  }

nested_as : (o : Option (Option ℕ)) (scopes : List Scope) (s : ℕ) (p : Option ℕ) → parent_of scopes s ≡ o
    → AreNested scopes → IsWithin scopes p → AreNested (opened_by o scopes s p)
unfolding added
nested_as None scopes s p e nested within = added_nested scopes s p nested e within
nested_as (Some held) scopes s p e nested within = nested

pub opened_nested : (scopes : List Scope) (s : ℕ) (p : Option ℕ) → AreNested scopes → IsWithin scopes p
    → AreNested (with_scope scopes s p)
opened_nested scopes s p nested within = nested_as (parent_of scopes s) scopes s p refl nested within
