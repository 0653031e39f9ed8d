-- Calls one after another that may be refused.
use Rattle.std.proofs.Common.{◌≡◌, ℕ, zero, suc, ◌<◌, ◌+◌, List, [], ◌∷◌, length, drop, get_or, map, Result, Ok, Err, IsErrAnd, refl, sym, subst, ap, ◌∙◌, arith}
use Rattle.std.proofs.lemmas.Result.{err_from_is_err_and}
use Rattle.pp_values.specs.declared.fault.What.{What}
use Rattle.hiera_config.specs.declared.refused.Refused.{Refused}
use Rattle.hiera_config.specs.declared.refused.Refused.TheVariants as refused
use Rattle.hiera_config.specs.Meant.{Meant, go_on, in_turn, MeetsBy, Tells}

-- ---- a first call

pub after_ok : {A B V W : Type 0} {shown : V → A} {shown' : W → B} {v : V} {o : Meant A} {r : Result W Refused}
    (k : A → Meant B)
    → MeetsBy shown (Ok v) o → MeetsBy shown' r (k (shown v)) → MeetsBy shown' r (go_on o k)
unfolding go_on
after_ok {shown' = shown'} {v = v} {r = r} k first next =
    subst (λ x. MeetsBy shown' r (go_on x k)) (sym (first.ok v refl)) next

refused_on : {A B V W : Type 0} {shown : V → A} {shown' : W → B} {s : Refused} {o : Meant A} (k : A → Meant B)
    → MeetsBy shown (Err s) o → MeetsBy shown' (Err s) (go_on o k)
unfolding go_on
refused_on {s = s} k first = record {
  ok = λ v e. absurd (cc e);
  fault = λ f e. let is : s ≡ refused.Fault f = cc e in ap (λ x. go_on x k) (first.fault f (ap Err is));
}

pub after_err : {A B V W : Type 0} {shown : V → A} {shown' : W → B} {s : Refused} {o : Meant A} {r : Result W Refused}
    (k : A → Meant B)
    → MeetsBy shown (Err s) o → IsErrAnd r (λ t. t ≡ s) → MeetsBy shown' r (go_on o k)
after_err {shown' = shown'} {s = s} {o = o} {r = r} k first h =
    let p = err_from_is_err_and r h in
    let same : r ≡ Err s = p.1 ∙ ap Err p.2 in
    subst (λ x. MeetsBy shown' x (go_on o k)) (sym same) (refused_on k first)

-- the last call's refusal
pub passes : {A V W : Type 0} {shown : V → A} {shown' : W → A} {s : Refused} {o : Meant A} {r : Result W Refused}
    → MeetsBy shown (Err s) o → IsErrAnd r (λ t. t ≡ s) → MeetsBy shown' r o
passes {shown' = shown'} {s = s} {o = o} {r = r} last h =
    let p = err_from_is_err_and r h in
    let same : r ≡ Err s = p.1 ∙ ap Err p.2 in
    subst (λ x. MeetsBy shown' x o) (sym same) (record {
      ok = λ w e. absurd (cc e);
      fault = λ f e. let is : s ≡ refused.Fault f = cc e in last.fault f (ap Err is);
    })

-- ---- one answer

pub gives : {A V : Type 0} {shown : V → A} {v : V} {o : Meant A} → o ≡ Ok (shown v) → MeetsBy shown (Ok v) o
gives {shown = shown} {v = v} e = record {
  ok = λ w p. let is : v ≡ w = cc p in e ∙ ap (λ x. Ok (shown x)) is;
  fault = λ f p. absurd (cc p);
}

memory_meets : {A V : Type 0} {shown : V → A} {o : Meant A} → MeetsBy shown (Err refused.Memory) o
memory_meets = record { ok = λ w p. absurd (cc p); fault = λ f p. absurd (cc p) }

pub memory_out : {A V : Type 0} {shown : V → A} {o : Meant A} {r : Result V Refused}
    → IsErrAnd r (λ t. t ≡ refused.Memory) → MeetsBy shown r o
memory_out {shown = shown} {o = o} {r = r} h =
    let p = err_from_is_err_and r h in
    let same : r ≡ Err refused.Memory = p.1 ∙ ap Err p.2 in
    subst (λ x. MeetsBy shown x o) (sym same) memory_meets

pub refuses : {A V : Type 0} {shown : V → A} {o : Meant A} (s : Refused) (f : What) → Tells s f → o ≡ Err f
    → MeetsBy shown (Err s) o
refuses (refused.Fault g) f told is = record {
  ok = λ w p. absurd (cc p);
  fault = λ h p. let same : g ≡ h = cc p in is ∙ ap Err (sym told ∙ same);
}
refuses refused.Memory f told is = memory_meets

pub same_meets : {A V : Type 0} {shown : V → A} {o p : Meant A} {r : Result V Refused} → o ≡ p → MeetsBy shown r p
    → MeetsBy shown r o
same_meets {shown = shown} {r = r} e m = subst (λ x. MeetsBy shown r x) (sym e) m

-- ---- steps in turn

module _ {A T X : Type 0} (step : A → T → Meant A) (of : X → T) where
  -- the step of this turn, and the steps behind it
  pub turn_at : (a : A) (xs : List X) (i : ℕ) (x : X) → i < length xs → x ≡ get_or xs i x
      → in_turn step a (map of (drop i xs)) ≡ go_on (step a (of x)) (λ b. in_turn step b (map of (drop (i + 1) xs)))
  unfolding in_turn
  turn_at a [] i x h at = absurd (omega arith)
  turn_at a (y ∷ xs) zero x h at = rw at refl
  turn_at a (y ∷ xs) (suc i) x h at =
      let h' : i < length xs = omega arith in
      let e : suc i + 1 ≡ suc (i + 1) = omega arith in
      rw e (turn_at a xs i x h' at)

  pub turn_made : (a b : A) (xs : List X) (i : ℕ) (x : X) → i < length xs → x ≡ get_or xs i x → step a (of x) ≡ Ok b
      → in_turn step b (map of (drop (i + 1) xs)) ≡ in_turn step a (map of (drop i xs))
  unfolding go_on
  turn_made a b xs i x h at made =
      sym (turn_at a xs i x h at ∙ ap (λ o. go_on o (λ c. in_turn step c (map of (drop (i + 1) xs)))) made)

-- the same, of the items themselves
module _ {A T : Type 0} (step : A → T → Meant A) where
  pub step_at : (a : A) (xs : List T) (i : ℕ) (x : T) → i < length xs → x ≡ get_or xs i x
      → in_turn step a (drop i xs) ≡ go_on (step a x) (λ b. in_turn step b (drop (i + 1) xs))
  unfolding in_turn
  step_at a [] i x h at = absurd (omega arith)
  step_at a (y ∷ xs) zero x h at = rw at refl
  step_at a (y ∷ xs) (suc i) x h at =
      let h' : i < length xs = omega arith in
      let e : suc i + 1 ≡ suc (i + 1) = omega arith in
      rw e (step_at a xs i x h' at)

  pub step_made : (a b : A) (xs : List T) (i : ℕ) (x : T) → i < length xs → x ≡ get_or xs i x → step a x ≡ Ok b
      → in_turn step b (drop (i + 1) xs) ≡ in_turn step a (drop i xs)
  unfolding go_on
  step_made a b xs i x h at made =
      sym (step_at a xs i x h at ∙ ap (λ o. go_on o (λ c. in_turn step c (drop (i + 1) xs))) made)

pub turns_end : {A T : Type 0} (step : A → T → Meant A) (a : A) (left : List T) → left ≡ []
    → in_turn step a left ≡ Ok a
unfolding in_turn
turns_end step a left is = rw is refl

-- what begins with nothing found
pub from_none : {A B X : Type 0} (k : A → Meant B) (start : List X → Meant A) (found : List X) → found ≡ []
    → go_on (start []) k ≡ go_on (start found) k
from_none k start found is = ap (λ xs. go_on (start xs) k) (sym is)
