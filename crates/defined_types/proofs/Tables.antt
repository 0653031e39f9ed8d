-- Tables of what is known: one row is put anew, all are counted anew, some are added.
use Rattle.std.proofs.Common.{◌≡◌, ℕ, zero, suc, ◌+◌, ◌-◌, Bool, true, false, List, [], ◌∷◌, ◌++◌, length}
use Rattle.std.proofs.Common.{◌⊎◌, inl, inr, Option, None, Some, refl, sym, ap, ◌∙◌, arith}
use Rattle.std.specs.Prelude.{slice_get, slice_set}
use Rattle.eval_world.specs.declared.world.World.{World}
use Rattle.collecting_laws.specs.Looks.{touched_at}
use Rattle.defined_types.specs.Watched.{no_turns, opened, told_from, told_now, told_risen}
use Rattle.defined_types.specs.declared.watchlist.Told.{Told}

-- ---- one row is put anew

pub value : {A : Type 0} {a b : A} → Prim.Path (Option A) (Some a) (Some b) → a ≡ b
value {a = a} e = ap (value_or a) e where
  value_or : {A : Type 0} → A → Option A → A
  value_or d None = d
  value_or d (Some x) = x

-- what is found is what was put, or stood at another place before
module _ {A : Type 0} where
  abbrev Put : List A → ℕ → ℕ → A → A → Type 0
  Put xs n m x t = ((m ≡ n) × (x ≡ t)) ⊎ ((¬ (m ≡ n)) × (slice_get xs m ≡ Some t))

  further_on : (y : A) (xs : List A) (n m : ℕ) (x t : A) → Put xs n m x t → Put (y ∷ xs) (suc n) (suc m) x t
  further_on y xs n m x t p = elim p [
    | inl here ↦ inl (ap suc here.0, here.1)
    | inr there ↦ inr ((λ e. there.0 (omega (arith, e))), there.1)
  ]

  put_cases : (xs : List A) (n m : ℕ) (x t : A) → slice_get (slice_set xs n x) m ≡ Some t → Put xs n m x t
  put_cases [] n m x t e = absurd cc
  put_cases (y ∷ ys) zero zero x t e = inl (refl, value e)
  put_cases (y ∷ ys) zero (suc m) x t e = inr ((λ same. omega (arith, same)), e)
  put_cases (y ∷ ys) (suc n) zero x t e = inr ((λ same. omega (arith, same)), e)
  put_cases (y ∷ ys) (suc n) (suc m) x t e = further_on y ys n m x t (put_cases ys n m x t e)

  pub put_by : {P : Type 0} (xs : List A) (n m : ℕ) (x t : A) → slice_get (slice_set xs n x) m ≡ Some t →
      (m ≡ n → x ≡ t → P) → (¬ (m ≡ n) → slice_get xs m ≡ Some t → P) → P
  put_by xs n m x t e here there = elim (put_cases xs n m x t e) [
    | inl p ↦ here p.0 p.1
    | inr p ↦ there p.0 p.1
  ]

-- what was told of a declaration: what rose now, or what was told of it before
pub told_cases : {P : Type 0} (same : Bool) (n touched : ℕ) (told : List Told) (clock m : ℕ) (t : Told) →
    slice_get (told_risen same n touched told clock) m ≡ Some t →
    (same ≡ false → m ≡ n → record { touched = touched; risen = suc clock } ≡ t → P) →
    ((m ≡ n → same ≡ true) → slice_get told m ≡ Some t → P) → P
told_cases true n touched told clock m t e now before = before (λ here. refl) e
told_cases false n touched told clock m t e now before =
    put_by told n m (record { touched = touched; risen = suc clock }) t e (now refl)
    (λ other. before (λ here. absurd (other here)))

pub told_length : (same : Bool) (n touched : ℕ) (told : List Told) (clock : ℕ) →
    length (told_risen same n touched told clock) ≡ length told
told_length true n touched told clock = refl
told_length false n touched told clock = set_length told n (record { touched = touched; risen = suc clock }) where
  set_length : {A : Type 0} (xs : List A) (n : ℕ) (x : A) → length (slice_set xs n x) ≡ length xs
  set_length [] n x = refl
  set_length (y ∷ ys) zero x = refl
  set_length (y ∷ ys) (suc n) x = ap suc (set_length ys n x)

-- ---- all rows are counted anew

pub counted_length : (w : World) (old : List Told) (now n left : ℕ) → length (told_from w old now n left) ≡ left
unfolding told_from
counted_length w old now n zero = refl
counted_length w old now n (suc left) = ap suc (counted_length w old now (n + 1) left)

pub counted_at : (w : World) (old : List Told) (now n left m : ℕ) (t : Told) →
    slice_get (told_from w old now n left) m ≡ Some t →
    told_now (slice_get old (n + m)) (touched_at w (n + m)) now ≡ t
unfolding told_from
counted_at w old now n zero m t e = absurd cc
counted_at w old now n (suc left) zero t e =
    let at : n + 0 ≡ n = omega arith in
    ap (λ k. told_now (slice_get old k) (touched_at w k) now) at ∙ value e
counted_at w old now n (suc left) (suc m) t e =
    let at : n + suc m ≡ n + 1 + m = omega arith in
    ap (λ k. told_now (slice_get old k) (touched_at w k) now) at ∙ counted_at w old now (n + 1) left m t e

-- ---- some are added

zeros_at : (left m k : ℕ) → slice_get (no_turns left) m ≡ Some k → k ≡ 0
unfolding no_turns
zeros_at zero m k e = absurd cc
zeros_at (suc left) zero k e = sym (value e)
zeros_at (suc left) (suc m) k e = zeros_at left m k e

added_at : (turns more : List ℕ) (m k : ℕ) → slice_get (turns ++ more) m ≡ Some k →
    ((j : ℕ) → slice_get more j ≡ Some k → k ≡ 0) → (slice_get turns m ≡ Some k) ⊎ (k ≡ 0)
added_at [] more m k e zeros = inr (zeros m e)
added_at (x ∷ xs) more zero k e zeros = inl e
added_at (x ∷ xs) more (suc m) k e zeros = added_at xs more m k e zeros

-- a turn is one that was there, or none
pub opened_at : (turns : List ℕ) (count m k : ℕ) → slice_get (opened turns count) m ≡ Some k →
    (slice_get turns m ≡ Some k) ⊎ (k ≡ 0)
opened_at turns count m k e =
    added_at turns (no_turns (count - length turns)) m k e (λ j. zeros_at (count - length turns) j k)
