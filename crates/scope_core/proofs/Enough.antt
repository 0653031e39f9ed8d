-- A name is found within as many scopes as there are: no scope on the way to it is met twice.
use Rattle.std.proofs.Common.{◌≡◌, ◌⊎◌, ℕ, zero, suc, ◌<◌, ◌≤◌, Bool, true, false, ◌||◌, List, [], ◌∷◌, length, eqb}
use Rattle.std.proofs.Common.{Option, None, Some, inl, inr, refl, sym, ap, subst, ◌∙◌, arith}
use Rattle.std.proofs.lemmas.Bool.Decides.{eqb_tells}
use Rattle.std.proofs.lemmas.Map.Steps.{length-le_from_distinct_below}
use Rattle.std.specs.List.{list_any, AllByRecursion, IsDistinct}
use Rattle.std.specs.Option.{option_or}
use Rattle.std.specs.Prelude.{slice_get}
use Rattle.pp_values.specs.Datum.{Datum}
use Rattle.scope_core.specs.Laws.{ScopesSuffice}
use Rattle.scope_core.specs.Names.{Name}
use Rattle.scope_core.specs.Scopes.{Scope, Scopes, next, own, seen, seen_from}

-- a place of a list that has something is within it
within_list : {A : Type 0} (xs : List A) (n : ℕ) (y : A) → slice_get xs n ≡ Some y → n < length xs
within_list [] n y e = absurd cc
within_list (x ∷ xs) zero y e = omega arith
within_list (x ∷ xs) (suc n) y e = let h : n < length xs = within_list xs n y e in omega arith

module _ (x : Name) (s : Scopes) (d : Datum) where
  -- From a scope the value is found after so many scopes, itself among them.
  data Found : Option ℕ → ℕ → Type 0 where
    here : (n : ℕ) → own n x s ≡ Some d → Found (Some n) (suc zero)
    further : (n k : ℕ) → own n x s ≡ None → Found (next n s) k → Found (Some n) (suc k)

  -- of a scope with a value of its own, and of one with a next scope
  own_within : (n : ℕ) (v : Datum) → own n x s ≡ Some v → n < length s.scopes
  own_within n v e = by (slice_get s.scopes n) refl where
    by : (o : Option Scope) → slice_get s.scopes n ≡ o → n < length s.scopes
    by None is = absurd (let none : own n x s ≡ None = rw is refl in cc)
    by (Some scope) is = within_list s.scopes n scope is

  next_within : (n m : ℕ) → next n s ≡ Some m → n < length s.scopes
  next_within n m e = by (slice_get s.scopes n) refl where
    by : (o : Option Scope) → slice_get s.scopes n ≡ o → n < length s.scopes
    by None is = absurd (let none : next n s ≡ None = rw is refl in cc)
    by (Some scope) is = within_list s.scopes n scope is

  -- it is found somewhere
  found_at : {o : Option ℕ} {k : ℕ} → Found o k → (n : ℕ) × (o ≡ Some n)
  found_at (here n e) = (n, refl)
  found_at (further n k e f) = (n, refl)

  within : (n : ℕ) {o : Option ℕ} {k : ℕ} → Found o k → o ≡ Some n → n < length s.scopes
  within n (here m e) is =
      let same : m ≡ n = cc in subst (λ (q : ℕ). q < length s.scopes) same (own_within m d e)
  within n (further m k e f) is =
      let same : m ≡ n = cc in
      let more = found_at f in
      subst (λ (q : ℕ). q < length s.scopes) same (next_within m more.0 more.1)

  -- a scope finds it after one number of scopes alone
  one_way : {o p : Option ℕ} {k j : ℕ} → Found o k → Found p j → o ≡ p → k ≡ j
  one_way (here n e) (here m f) is = refl
  one_way (here n e) (further m j f g) is =
      let same : n ≡ m = cc in let none : own n x s ≡ None = subst (λ q. own q x s ≡ None) (sym same) f in absurd cc
  one_way (further n k e f) (here m g) is =
      let same : n ≡ m = cc in let some : own n x s ≡ Some d = subst (λ q. own q x s ≡ Some d) (sym same) g in absurd cc
  one_way (further n k e f) (further m j g h) is =
      let same : n ≡ m = cc in ap suc (one_way f h (ap (λ q. next q s) same))

  -- the scopes on the way
  way : {o : Option ℕ} {k : ℕ} → Found o k → List ℕ
  way (here n e) = n ∷ []
  way (further n k e f) = n ∷ way f

  long : {o : Option ℕ} {k : ℕ} (f : Found o k) → length (way f) ≡ k
  unfolding way
  long (here n e) = refl
  long (further n k e f) = ap suc (long f)

  -- each of them finds it too, after no more scopes
  record Later (q k : ℕ) : Type 0 where
    pub after : ℕ
    pub no_more : after ≤ k
    pub found : Found (Some q) after

  any_cases : (q n : ℕ) (ns : List ℕ) → list_any (eqb q) (n ∷ ns) ≡ true → (q ≡ n) ⊎ (list_any (eqb q) ns ≡ true)
  any_cases q n ns e = elim (eqb_tells q n) [
    | inl same ↦ inl same.1
    | inr other ↦ inr (subst (λ b. (b || list_any (eqb q) ns) ≡ true) other.0 e)
  ]

  later : {o : Option ℕ} {k : ℕ} (f : Found o k) (q : ℕ) → list_any (eqb q) (way f) ≡ true → Later q k
  unfolding way
  later (here n e) q is = elim (any_cases q n [] is) [
    | inl same ↦
        record { after = suc zero; no_more = omega arith; found = subst (λ m. Found (Some m) (suc zero)) (sym same) (here n e) }
    | inr more ↦ absurd cc
  ]
  later (further n k e f) q is = elim (any_cases q n (way f) is) [
    | inl same ↦ record {
      after = suc k;
      no_more = omega arith;
      found = subst (λ m. Found (Some m) (suc k)) (sym same) (further n k e f);
    }
    | inr more ↦
        let r = later f q more in
        record { after = r.after; no_more = (let h = r.no_more in omega (arith, h)); found = r.found }
  ]

  none_equal : (y : ℕ) (ns : List ℕ) → (list_any (eqb y) ns ≡ true → ⊥) → AllByRecursion (λ z. eqb y z ≡ false) ns
  none_equal y [] none = tt
  none_equal y (n ∷ ns) none = elim (eqb_tells y n) [
    | inl same ↦ absurd (none (ap (λ b. b || list_any (eqb y) ns) same.0))
    | inr other ↦ (other.0, none_equal y ns (λ h. none (ap (λ b. b || list_any (eqb y) ns) other.0 ∙ h)))
  ]

  distinct : {o : Option ℕ} {k : ℕ} (f : Found o k) → IsDistinct eqb (way f)
  unfolding way IsDistinct
  distinct (here n e) = (tt, tt)
  distinct (further n k e f) = (
    none_equal n (way f) (λ is.
        let r = later f n is in
        let less = r.no_more in
        let same : r.after ≡ suc k = one_way r.found (further n k e f) refl in
        omega (arith, less, same)),
    distinct f,
  )

  few : {o : Option ℕ} {k : ℕ} → Found o k → k ≤ length s.scopes
  few f =
      let most = length-le_from_distinct_below (way f) (length s.scopes) (distinct f) (λ q is.
      let r = later f q is in within q r.found refl) in
      let exact = long f in
      omega (arith, most, exact)

  -- ---- turns

  own_first : (n turns : ℕ) → own n x s ≡ Some d → seen_from (suc turns) (Some n) x s ≡ Some d
  unfolding seen_from
  own_first n turns e = ap (λ o. option_or o (seen_from turns (next n s) x s)) e

  own_none : (n turns : ℕ) → own n x s ≡ None → seen_from (suc turns) (Some n) x s ≡ seen_from turns (next n s) x s
  unfolding seen_from
  own_none n turns e = ap (λ o. option_or o (seen_from turns (next n s) x s)) e

  seen_then : (turns : ℕ) {o : Option ℕ} {k : ℕ} → Found o k → k ≤ turns → seen_from turns o x s ≡ Some d
  seen_then zero (here n e) less = absurd (omega arith)
  seen_then (suc turns) (here n e) less = own_first n turns e
  seen_then zero (further n k e f) less = absurd (omega arith)
  seen_then (suc turns) (further n k e f) less = own_none n turns e ∙ seen_then turns f (omega arith)

  found_by : (n turns : ℕ) (o : Option Datum) → own n x s ≡ o
      → (seen_from turns (next n s) x s ≡ Some d → (k : ℕ) × (Found (next n s) k) × (k ≤ turns))
      → seen_from (suc turns) (Some n) x s ≡ Some d → (k : ℕ) × (Found (Some n) k) × (k ≤ suc turns)
  unfolding seen_from
  found_by n turns None is more e =
      let r = more (sym (own_none n turns is) ∙ e) in
      (suc r.0, further n r.0 is r.1, (let h = r.2 in omega (arith, h)))
  found_by n turns (Some v) is more e =
      let whole : Some v ≡ Some d = sym (ap (λ o. option_or o (seen_from turns (next n s) x s)) is) ∙ e in
      let same : v ≡ d = cc in
      (suc zero, here n (subst (λ u. own n x s ≡ Some u) same is), omega arith)

  found_in : (turns : ℕ) (o : Option ℕ) → seen_from turns o x s ≡ Some d → (k : ℕ) × (Found o k) × (k ≤ turns)
  unfolding seen_from
  found_in zero o e = absurd cc
  found_in (suc turns) None e = absurd cc
  found_in (suc turns) (Some n) e = found_by n turns (own n x s) refl (λ h. found_in turns (next n s) h) e

pub scopes_suffice : ScopesSuffice
scopes_suffice turns at x s more = by (seen_from turns at x s) refl where
  by : (o : Option Datum) → seen_from turns at x s ≡ o → seen_from turns at x s ≡ seen at x s
  by (Some d) e =
      let r = found_in x s d turns at e in
      e ∙ sym (seen_then x s d (length s.scopes) r.1 (few x s d r.1))
  by None e = e ∙ sym (none (seen at x s) refl) where
    none : (o : Option Datum) → seen at x s ≡ o → seen at x s ≡ None
    none None is = is
    none (Some d) is =
        let r = found_in x s d (length s.scopes) at is in
        let less = r.2 in
        let some : seen_from turns at x s ≡ Some d = seen_then x s d turns r.1 (omega (arith, less, more)) in
        absurd cc
