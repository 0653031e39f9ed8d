-- What a pass's invariant says of its seat.
use Rattle.std.proofs.Common.{◌≡◌, ℕ, ◌≤◌, Bool, true, false, cond, List, [], ◌∷◌, ◌++◌, length, Option, Some, None, slice_get, All, ap, ap₂, sym, ◌∙◌, subst, arith, nat_le, le-leb}
use Rattle.std.proofs.lemmas.Bool.{lt-leb}
use mathlib.Core.List.{IsPrefix}
use mathlib.Core.Option.{none}
use Rattle.atomic_table.specs.Table.{Me, step, rest}
use Rattle.atomic_table.specs.Seated.{TableId}
use Rattle.atomic_table.specs.declared.shared.Seat.{Seat}
use Rattle.hist_lock.specs.Calls.{IsLonger, AreCalls}
use Rattle.hist_lock.specs.Views.{joined, first_view, giving}
use Rattle.hist_lock.specs.Steps.{Added}
use Rattle.hist_lock.specs.Held.{Held, adding}
use Rattle.hist_lock.specs.Passes.{IsPlaced, IsPass, held_by}
use Rattle.hist_lock.proofs.Ends.{first_calls}
use Rattle.hist_lock.specs.declared.view.View.{View}

module _ {V E : Type 0} (s : Seat (Option V) (View E)) where
  pub idle_seat : s.me.0.holds ≡ false → IsPlaced s.me.0.holds s → (s.me.0.waits ≡ false) × (s.me.1 ≡ [])
  idle_seat e h = subst (λ (b : Bool). IsPlaced b s) e h

  pub turn_seat : s.me.0.holds ≡ true → IsPlaced s.me.0.holds s → s.me.1 ≡ (0, None) ∷ []
  turn_seat e h = subst (λ (b : Bool). IsPlaced b s) e h

  pub turn_slots : s.me.0.holds ≡ true → IsPlaced s.me.0.holds s → s.me.1 ≡ (0, None) ∷ rest s.me.1
  turn_slots e h = let t = turn_seat e h in t ∙ ap (λ (l : List (ℕ × Option V)). (0, None) ∷ rest l) (sym t)

module _ {E : Type 0} where
  -- of the fronts of a joined view one begins the other, and it has the longer
  pub longer : (v w : View E) → (length (joined v w).met ≤ length (joined v w).front → IsPrefix (joined v w).met (joined v w).front) → IsLonger v.front w.front (joined v w).front
  longer v w h =
      let P : Bool → Type 0 = λ b. length (cond b w.front v.front) ≤ length (cond b v.front w.front) → IsPrefix (cond b w.front v.front) (cond b v.front w.front) in
      let b : Bool = nat_le (length w.front) (length v.front) in (
        (λ le. let is : b ≡ true = le-leb (length w.front) (length v.front) le in (ap (λ (x : Bool). cond x v.front w.front) is, subst P is h le)),
        (λ lt. let is : b ≡ false = lt-leb (length w.front) (length v.front) lt in (ap (λ (x : Bool). cond x v.front w.front) is, subst P is h (omega arith))),
      )

module _ {V E : Type 0} (author : E → Option ℕ) where
  -- the first pass
  pub first_is : (s : Seat (Option V) (View E)) (now : List E) → s.me ≡ (first_view now, []) → All (λ e. author e ≡ None) now → IsPass author s 65535 0
  first_is s now e free = record {
    spare_is = sym (ap (λ m. m.0.room) e);
    few = omega (arith, ap (λ m. m.0.room) e, ap (λ m. length m.0.numbers) e);
    mine = ap (λ m. slice_get m.0.numbers 0) e;
    own = subst (λ (m : Me (Option V) (View E)). AreCalls author m.0.calls m.0.numbers m.0.front) (sym e) (first_calls author now free);
    placed = subst (λ (b : Bool). IsPlaced b s) (sym (ap (λ m. m.0.holds) e)) (ap (λ m. m.0.waits) e, ap (λ m. m.1) e);
  }

  -- a turn given back with one entry more
  pub added_me : (v : View E) (entries : V → List E) (value : V) (more : List (ℕ × Option V)) (m n : Me (Option V) (View E)) → m ≡ (v, (0, Some value) ∷ more) → Added entries author (step 0 0 1 0 none) m 0 n
      → (n ≡ (giving v (entries value) (v.calls ++ length v.front ∷ []), more)) × AreCalls author (v.calls ++ length v.front ∷ []) v.numbers (entries value)
  added_me v entries value more m n is h =
      subst (λ (x : Me (Option V) (View E)). (n ≡ (giving x.0 (entries value) (x.0.calls ++ length x.0.front ∷ []), more)) × AreCalls author (x.0.calls ++ length x.0.front ∷ []) x.0.numbers (entries value)) is
      (h value more (ap (λ (x : Me (Option V) (View E)). x.1) is))

  pub added_is : (s t : Seat (Option V) (View E)) (spare number : ℕ) (now : List E) (calls : List ℕ) (more : List (ℕ × Option V)) → t.me ≡ (giving s.me.0 now calls, more) → more ≡ [] → AreCalls author calls s.me.0.numbers now
      → IsPass author s spare number → IsPass author t spare number
  added_is s t spare number now calls more e empty own p = record {
    spare_is = p.spare_is ∙ sym (ap (λ m. m.0.room) e);
    few = omega (arith, p.few, ap (λ m. m.0.room) e, ap (λ m. length m.0.numbers) e);
    mine = ap (λ m. slice_get m.0.numbers 0) e ∙ p.mine;
    own = subst (λ (m : Me (Option V) (View E)). AreCalls author m.0.calls m.0.numbers m.0.front) (sym e) own;
    placed = subst (λ (b : Bool). IsPlaced b t) (sym (ap (λ m. m.0.holds) e)) (ap (λ m. m.0.waits) e, ap (λ m. m.1) e ∙ empty);
  }

  pub added_own : (s t : Seat (Option V) (View E)) (now : List E) (calls : List ℕ) (more : List (ℕ × Option V)) → t.me ≡ (giving s.me.0 now calls, more) → AreCalls author calls s.me.0.numbers now
      → AreCalls author t.me.0.calls t.me.0.numbers t.me.0.front
  added_own s t now calls more e own = subst (λ (m : Me (Option V) (View E)). AreCalls author m.0.calls m.0.numbers m.0.front) (sym e) own

abbrev shown : {E : Type 0} → TableId → View E → ℕ → Held E
shown id v author = record { lock = id; front = v.front; calls = v.calls; numbers = v.numbers; room = v.room; author = author; turn = v.holds }

pub added_shown : {V E : Type 0} (s t : Seat (Option V) (View E)) (number : ℕ) (now : List E) (more : List (ℕ × Option V)) (p : Held E) → t.table_id ≡ s.table_id
    → t.me ≡ (giving s.me.0 now (s.me.0.calls ++ length s.me.0.front ∷ []), more) → held_by s number ≡ p → held_by t number ≡ adding p now
added_shown s t number now more p same e is = ap₂ (λ id m. shown id m.0 number) same e ∙ ap (λ h. adding h now) is
