-- The rule at the start and at the end.
use Rattle.std.proofs.Common.{◌≡◌, ℕ, ◌+◌, ◌<◌, ◌≤◌, Bool, true, false, true≢false, List, [], ◌∷◌, length, Option, Some, None, slice_get, All, refl, ap, sym, ◌∙◌, subst, inl, ⊎_elim, arith}
use mathlib.Core.List.{IsPrefix}
use mathlib.Core.Option.{Option as Maybe, some, some-ne-none}
use lib.ListN.{get_elem?}
use Rattle.atomic_table.specs.Table.{State, opening, Final, Seen}
use Rattle.atomic_table.proofs.Lists.{at_snoc}
use Rattle.list_sums.specs.Counts.{bit, total, same, below, times}
use Rattle.hist_lock.specs.Calls.{stands, count_author, wrote, has_author, AreCalls, AreAllCalls}
use Rattle.hist_lock.specs.Views.{waiting, holding, room_of, held_of, has_number, first_view}
use Rattle.hist_lock.specs.Turned.{Fits, Turned}
use Rattle.hist_lock.specs.declared.view.View.{View}
use Rattle.list_sums.proofs.Totals.{term_le, totals_le, gap}
use Rattle.list_sums.proofs.Marks.{below_yes, below_no, below_next, times_le}
use Rattle.hist_lock.proofs.Fronts.{prefix_self}
use Rattle.hist_lock.proofs.CallLemmas.{calls_new, at_all}
use Rattle.hist_lock.proofs.Tickets.{waiting_no}

nobody : (a : ℕ) → None ≡ Some a → ⊥
nobody a e = absurd cc

first_once : (a : ℕ) → same a 0 + 0 + 0 ≡ below 1 a
first_once a = let e : below 1 a ≡ below 0 a + same a 0 = below_next 0 a in omega (arith, e, below_no 0 a (omega arith))

holder_by : (b c : Bool) → (b ≡ true → c ≡ true) → bit b ≤ bit c
holder_by true c h = omega (arith, ap bit (h refl))
holder_by false c h = omega arith

-- whoever has the turn waits, in numbers
holder_waits : {E : Type 0} (u : View E) → (u.holds ≡ true → u.waits ≡ true) → holding u ≤ waiting u
holder_waits u h = holder_by u.holds u.waits h

counted_all : (numbers : List ℕ) (o : Option ℕ) → ((a : ℕ) → o ≡ Some a → times a numbers ≡ 1) → stands numbers o ≡ count_author o
counted_all numbers None h = refl
counted_all numbers (Some a) h = h a refl

module _ {E : Type 0} (author : E → Option ℕ) where
  unknown : (now : List E) → All (λ e. author e ≡ None) now → (k : ℕ) (e : E) (a : ℕ) → slice_get now k ≡ Some e → author e ≡ Some a → ⊥
  unknown now h k e a at by = nobody a (sym (at_all author (λ x. author x ≡ None) now k e h at) ∙ by)

  pub first_calls : (now : List E) → All (λ e. author e ≡ None) now → AreCalls author [] (0 ∷ []) now
  first_calls now h = calls_new author 0 now (λ k e a at by. absurd (unknown now h k e a at by))

module _ {V E : Type 0} (entries : V → List E) (author : E → Option ℕ) where
  pub starts : (value : V) → All (λ e. author e ≡ None) (entries value) → Turned entries author (opening (0 ∷ 0 ∷ []) (Some value ∷ []) (first_view (entries value)))
  starts value h = let now : List E = entries value in let v : View E = first_view now in record {
    served = 0;
    drawn = 0;
    now = now;
    words = refl;
    tickets = λ t. omega arith;
    drawn_is = refl;
    few = refl;
    once = first_once;
    known = λ k e a at by. absurd (unknown author now h k e a at by);
    each = λ i u at.
        ⊎_elim (λ none_. absurd (some-ne-none u (sym none_)))
        (λ e. subst (λ (x : View E). Fits author 0 now 65535 x) e
        record {
          counted = omega arith;
          front = prefix_self now;
          met = (now, refl);
          turn = λ x. absurd (true≢false (sym x));
          only_room = λ _. refl;
          calls = first_calls author now h;
          seen = λ k x. absurd (omega arith);
        })
        (at_snoc [] v u i at);
    place = inl (value, refl, refl, refl);
  }

  -- all entries that have an author are the pass's, where it stands for all authors
  wrote_all : (numbers : List ℕ) (o : Option E) → ((e : E) (a : ℕ) → o ≡ Some e → author e ≡ Some a → times a numbers ≡ 1) → wrote author numbers o ≡ has_author author o
  wrote_all numbers None h = refl
  wrote_all numbers (Some e) h = counted_all numbers (author e) (λ a is. h e a refl is)

  -- the pass that stands for all authors, and the value at the end
  pub ends : (id : ℕ) (v : View E) (words : List ℕ) (slots : List (Option V)) → v.waits ≡ false → v.room + length v.numbers ≡ 65536 → Final (Seen (Turned entries author) id v) words slots
      → (value : V) × (get_elem? slots 0 ≡ some (Some value)) × IsPrefix v.front (entries value) × AreAllCalls author v.calls (entries value)
  ends id v words slots free all end =
      let s : State (Option V) (View E) = end.0 in let r = end.1.0 in let me = end.1.1 in let f = r.each id v me in
      let room = term_le room_of s.views id v me in let held = term_le held_of s.views id v me in
      let count : total held_of s.views ≡ held_of v = omega (arith, r.few) in
      let nobody_waits : total waiting s.views ≡ 0 =
      omega (arith, waiting_no v free, gap waiting held_of s.views id v me (λ i u at. (r.each i u at).counted)) in
      let nobody_holds : total holding s.views ≡ 0 = omega (arith, totals_le holding waiting s.views (λ i u at. holder_waits u (λ h. ((r.each i u at).turn h).0))) in
      let one : (a : ℕ) → a < total held_of s.views → times a v.numbers ≡ 1 = λ a lt.
      omega (arith, r.once a, below_yes (total held_of s.views) a lt, term_le (has_number a) s.views id v me, gap (has_number a) held_of s.views id v me (λ i u at. times_le a u.numbers)) in
      ⊎_elim
      (λ p. let value : V = p.0 in (
        value,
        end.4 0 (Some value) (ap (λ (hs : List (Maybe (Option V))). get_elem? hs 0) p.1),
        subst (λ (l : List E). IsPrefix v.front l) (sym p.2) f.front,
        subst (λ (l : List E). AreAllCalls author v.calls l) (sym p.2) (λ k. f.calls k ∙ wrote_all v.numbers (slice_get r.now k) (λ e a at by. one a (r.known k e a at by))),
      ))
      (λ p. absurd (omega (arith, p.1)))
      r.place
