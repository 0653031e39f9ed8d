-- Splitting a view and joining two keep the rule.
use Rattle.std.proofs.Common.{◌≡◌, ℕ, ◌+◌, ◌-◌, ◌<◌, ◌≤◌, ◌≢◌, Bool, false, true≢false, cond, List, [], ◌∷◌, ◌++◌, length, set, Option, refl, ap, sym, ◌∙◌, subst, inl, inr, ⊎_elim, arith, length-append, le-leb}
use Rattle.std.proofs.lemmas.Bool.{lt-leb}
use mathlib.Core.Logic.{dite}
use mathlib.Core.List.{IsPrefix}
use mathlib.Core.Option.{some}
use native.Mathlib.Decide.{dec_le}
use lib.ListN.{get_elem?}
use Rattle.atomic_table.specs.Table.{Splits, Joins}
use Rattle.atomic_table.proofs.Lists.{at_set, at_snoc, set_else}
use Rattle.list_sums.specs.Counts.{total, same, below, times}
use Rattle.hist_lock.specs.Calls.{AreCalls}
use Rattle.hist_lock.specs.Views.{waiting, holding, has_ticket, room_of, held_of, has_number, note_view, spent, dividing, divided, joined}
use Rattle.hist_lock.specs.Turned.{Fits, Turned}
use Rattle.hist_lock.specs.declared.view.View.{View}
use Rattle.list_sums.proofs.Totals.{total-append, total-set, terms_le}
use Rattle.list_sums.proofs.Marks.{below_next}
use Rattle.hist_lock.proofs.Fronts.{prefix_whole}
use Rattle.hist_lock.proofs.CallLemmas.{calls_new, calls_nobody, calls_joined}
use Rattle.hist_lock.proofs.Tickets.{waiting_no, holding_no, ticket_no}

module _ {V E : Type 0} (entries : V → List E) (author : E → Option ℕ) where
  -- what a view knows holds with another sum of rooms
  roomy : (served rooms rooms' : ℕ) (now : List E) (u : View E) → (0 < u.room → rooms' ≡ u.room) → Fits author served now rooms u → Fits author served now rooms' u
  roomy served rooms rooms' now u h f = record { counted = f.counted; front = f.front; met = f.met; turn = f.turn; only_room = h; calls = f.calls; seen = f.seen }

  -- a view that no step changed but its room and its authors fits as it did
  fresh : (served rooms : ℕ) (now front : List E) (numbers : List ℕ) → IsPrefix front now → AreCalls author [] numbers now → Fits author served now rooms (record (note_view front) { numbers = numbers })
  fresh served rooms now front numbers p calls = record {
    counted = omega arith;
    front = p;
    met = (now, refl);
    turn = λ h. absurd (true≢false (sym h));
    only_room = λ h. absurd (omega arith);
    calls = calls;
    seen = λ k h. absurd (omega arith);
  }

  pub divides : (id : ℕ) (v : View E) → 0 < v.room → Splits (Turned entries author) id v (dividing v) (divided v)
  divides id v some_ s r me =
      let f = r.each id v me in let left : View E = dividing v in let right : View E = divided v in
      let vs : List (View E) = set s.views id left in
      let both : (g : View E → ℕ) → total g (vs ++ right ∷ []) + g v ≡ total g s.views + g left + g right = λ g. omega (arith, total-append g vs (right ∷ []), total-set g s.views id v left me) in
      let rooms = f.only_room some_ in
      let count : ℕ = total held_of s.views in
      let new : 65536 - v.room ≡ count = omega (arith, r.few) in
      let rooms' : total room_of (vs ++ right ∷ []) ≡ v.room - 1 = omega (arith, both room_of) in
      let helds : total held_of (vs ++ right ∷ []) ≡ count + 1 = omega (arith, both held_of) in
      record {
        served = r.served;
        drawn = r.drawn;
        now = r.now;
        words = r.words;
        tickets = λ t. omega (arith, both (has_ticket t), r.tickets t);
        drawn_is = omega (arith, both waiting, r.drawn_is);
        few = omega (arith, r.few);
        once = λ a. omega (arith, both (has_number a), r.once a, below_next count a, ap (λ (n : ℕ). below n a) helds, ap (same a) new);
        known = λ k e a at by. omega (arith, r.known k e a at by);
        each = λ i u at.
            subst (λ (n : ℕ). Fits author r.served r.now n u) (sym rooms')
            (⊎_elim
            (λ there. ⊎_elim
            (λ t. subst (λ (x : View E). Fits author r.served r.now (v.room - 1) x) t.1 record { counted = f.counted; front = f.front; met = f.met; turn = f.turn; only_room = λ h. refl; calls = f.calls; seen = f.seen })
            (λ t. roomy r.served (total room_of s.views) (v.room - 1) r.now u (λ h. absurd (omega (arith, terms_le room_of s.views id i v u t.0 me t.1))) (r.each i u t.1))
            (at_set s.views id i left u there))
            (λ e. subst (λ (x : View E). Fits author r.served r.now (v.room - 1) x) e
            (fresh r.served (v.room - 1) r.now v.front ((65536 - v.room) ∷ []) f.front (calls_new author (65536 - v.room) r.now (λ k x a at' by. omega (arith, r.known k x a at' by)))))
            (at_snoc vs right u i at));
        place = ⊎_elim (λ p. inl (p.0, p.1, p.2, omega (arith, both holding, p.3))) (λ p. inr (p.0, omega (arith, both holding, p.1))) r.place;
      }

  pub copies : (id : ℕ) (v : View E) → Splits (Turned entries author) id v v (note_view v.front)
  copies id v s r me =
      let f = r.each id v me in let right : View E = note_view v.front in
      let vs : List (View E) = set s.views id v in
      let both : (g : View E → ℕ) → total g (vs ++ right ∷ []) ≡ total g s.views + g right = λ g. omega (arith, total-append g vs (right ∷ []), total-set g s.views id v v me) in
      let rooms' : total room_of (vs ++ right ∷ []) ≡ total room_of s.views = omega (arith, both room_of) in
      let helds : total held_of (vs ++ right ∷ []) ≡ total held_of s.views = omega (arith, both held_of) in
      record {
        served = r.served;
        drawn = r.drawn;
        now = r.now;
        words = r.words;
        tickets = λ t. omega (arith, both (has_ticket t), r.tickets t);
        drawn_is = omega (arith, both waiting, r.drawn_is);
        few = omega (arith, r.few);
        once = λ a. omega (arith, both (has_number a), r.once a, ap (λ (n : ℕ). below n a) helds);
        known = λ k e a at by. omega (arith, r.known k e a at by);
        each = λ i u at.
            subst (λ (n : ℕ). Fits author r.served r.now n u) (sym rooms')
            (⊎_elim
            (λ there. ⊎_elim (λ t. subst (λ (x : View E). Fits author r.served r.now (total room_of s.views) x) t.1 f) (λ t. r.each i u t.1) (at_set s.views id i v u there))
            (λ e. subst (λ (x : View E). Fits author r.served r.now (total room_of s.views) x) e (fresh r.served (total room_of s.views) r.now v.front [] f.front (calls_nobody author r.now)))
            (at_snoc vs right u i at));
        place = ⊎_elim (λ p. inl (p.0, p.1, p.2, omega (arith, both holding, p.3))) (λ p. inr (p.0, omega (arith, both holding, p.1))) r.place;
      }

  -- both fronts of a joined view begin the list, and the kept one is the longer
  front_of : (v w : View E) (now : List E) → IsPrefix v.front now → IsPrefix w.front now
      → IsPrefix (joined v w).front now × IsPrefix (joined v w).met now × (length v.front ≤ length (joined v w).front) × (length w.front ≤ length (joined v w).front)
  front_of v w now p q =
      let P : Bool → Type 0 = λ b. IsPrefix (cond b v.front w.front) now × IsPrefix (cond b w.front v.front) now × (length v.front ≤ length (cond b v.front w.front)) × (length w.front ≤ length (cond b v.front w.front)) in
      dite (dec_le (length w.front) (length v.front)) (λ le. subst P (sym (le-leb (length w.front) (length v.front) le)) (p, q, omega arith, le))
      (λ gt. subst P (sym (lt-leb (length w.front) (length v.front) (omega arith))) (q, p, omega arith, omega arith))

  pub merges : (id : ℕ) (v : View E) (other : ℕ) (w : View E) → w.waits ≡ false → w.holds ≡ false → Joins (Turned entries author) id v other w (joined v w) spent
  merges id v other w free idle s r me apart them =
      let u : View E = joined v w in let vs : List (View E) = set s.views id u in
      let there : get_elem? s.views other ≡ some w = sym (set_else s.views id other u apart) ∙ them in
      let f = r.each id v me in let g = r.each other w there in
      let fronts = front_of v w r.now f.front g.front in
      let both : (h : View E → ℕ) → total h (set vs other spent) + h w + h v ≡ total h s.views + h u + h spent = λ h. omega (arith, total-set h s.views id v u me, total-set h vs other w spent them) in
      let rooms' : total room_of (set vs other spent) ≡ total room_of s.views = omega (arith, both room_of) in
      let helds : total held_of (set vs other spent) ≡ total held_of s.views = omega (arith, both held_of, length-append v.numbers w.numbers) in
      record {
        served = r.served;
        drawn = r.drawn;
        now = r.now;
        words = r.words;
        tickets = λ t. omega (arith, both (has_ticket t), r.tickets t, ticket_no t w free);
        drawn_is = omega (arith, both waiting, r.drawn_is, waiting_no w free);
        few = omega (arith, r.few);
        once = λ a. omega (arith, both (has_number a), r.once a, total-append (same a) v.numbers w.numbers, ap (λ (n : ℕ). below n a) helds);
        known = λ k e a at by. omega (arith, r.known k e a at by);
        each = λ i x at.
            subst (λ (n : ℕ). Fits author r.served r.now n x) (sym rooms')
            (⊎_elim
            (λ (t : (i ≡ other) × (spent ≡ x)). subst (λ (y : View E). Fits author r.served r.now (total room_of s.views) y) t.1 (fresh r.served (total room_of s.views) r.now [] [] (r.now, refl) (calls_nobody author r.now)))
            (λ (q : (i ≢ other) × (get_elem? vs i ≡ some x)). ⊎_elim
            (λ (t : (i ≡ id) × (u ≡ x)). subst (λ (y : View E). Fits author r.served r.now (total room_of s.views) y) t.1
            record {
              counted = omega (arith, f.counted, length-append v.numbers w.numbers);
              front = fronts.0;
              met = fronts.1;
              turn = λ h. let z = f.turn h in (z.0, z.1, prefix_whole u.front r.now fronts.0 (omega (arith, ap length z.2, fronts.2)));
              only_room = λ h. let sum = terms_le room_of s.views id other v w apart me there in dite (dec_le 1 v.room) (λ y. omega (arith, f.only_room y)) (λ n. omega (arith, g.only_room (omega arith)));
              calls = calls_joined author v.calls w.calls v.numbers w.numbers r.now f.calls g.calls;
              seen = λ k h. dite (dec_le 1 (times k v.calls)) (λ y. omega (arith, f.seen k y, fronts.2)) (λ n. omega (arith, g.seen k (omega (arith, total-append (same k) v.calls w.calls)), fronts.3));
            })
            (λ t. r.each i x t.1)
            (at_set s.views id i u x q.1))
            (at_set vs other i spent x at));
        place = ⊎_elim (λ p. inl (p.0, p.1, p.2, omega (arith, both holding, p.3, holding_no w idle))) (λ p. inr (p.0, omega (arith, both holding, p.1, holding_no w idle))) r.place;
      }
