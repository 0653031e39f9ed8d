-- Each step on a word keeps the rule.
use Rattle.std.proofs.Common.{◌≡◌, ℕ, ◌+◌, ◌%◌, ◌<◌, ◌≤◌, ◌≢◌, ◌⊎◌, true, false, true≢false, List, [], ◌∷◌, ◌++◌, length, get_or, set, Option, Some, slice_get, unwrap_or, refl, ap, sym, ◌∙◌, subst, subst₂, ap₂, inl, inr, ⊎_elim, arith, length-append}
use mathlib.Core.Logic.{dite}
use mathlib.Core.List.{IsPrefix}
use mathlib.Core.Option.{Option as Maybe, some, none, some-injective}
use native.Mathlib.Decide.{ℕ_discrete, dec_le}
use lib.ListN.{get_elem?}
use lib.Seq.{set-get_or}
use Rattle.std.proofs.lemmas.Option.{slice_get_past}
use Rattle.atomic_table.specs.Table.{State, Me, step, keeps, takes, gives, stepped, Allows}
use Rattle.atomic_table.proofs.Lists.{at_set, set_again}
use Rattle.list_sums.specs.Counts.{total, same, below, times}
use Rattle.hist_lock.specs.Calls.{stands, AreCalls}
use Rattle.hist_lock.specs.Views.{waiting, holding, has_ticket, room_of, held_of, has_number, drawing, seizing, giving}
use Rattle.hist_lock.specs.Turned.{Fits, Turned}
use Rattle.hist_lock.specs.Steps.{Drew, Looked, Gave, Added, Settled}
use Rattle.hist_lock.specs.declared.view.View.{View}
use Rattle.list_sums.proofs.Totals.{total-append, total-set, term_le, terms_le, someone, totals_le}
use Rattle.list_sums.proofs.Marks.{same_yes, same_no, below_yes, below_next, below_le, below_lt, first_in, first_some}
use Rattle.hist_lock.proofs.Fronts.{prefix_self, prefix_trans, prefix_length, prefix_shorter, at_append, at_end}
use Rattle.hist_lock.proofs.CallLemmas.{calls_front, calls_kept, calls_added}
use Rattle.hist_lock.proofs.Tickets.{mod_next, served_is, waiting_yes, waiting_no, holding_yes, holding_no, holds_yes, holds_no, ticket_yes, ticket_no, ticket_own}

-- a place has one element
pub same_at : {A : Type 0} (l : List A) (i j : ℕ) (u v : A) → i ≡ j → get_elem? l i ≡ some u → get_elem? l j ≡ some v → u ≡ v
same_at l i j u v e a b = some-injective u v (sym a ∙ (ap (get_elem? l) e ∙ b))

-- the last place is where the new call stands
is_last : (k n : ℕ) → 0 < same k n + 0 → k ≡ n
is_last k n h = dite (ℕ_discrete k n) (λ e. e) (λ ne. absurd (omega (arith, same_no k n ne)))

abbrev first_value : {V : Type 0} → V → List (ℕ × Option V) → V
first_value d [] = d
first_value d (p ∷ ps) = unwrap_or p.1 d

-- a slot that was taken last is one slot
value_is : {V : Type 0} (x y : V) (xs ys : List (ℕ × Option V)) → (0, Some x) ∷ xs ≡ (0, Some y) ∷ ys → x ≡ y
value_is x y xs ys e = ap (first_value x) e

more_is : {V : Type 0} (x y : V) (xs ys : List (ℕ × Option V)) → (0, Some x) ∷ xs ≡ (0, Some y) ∷ ys → xs ≡ ys
more_is x y xs ys e = cc

author_is : (a b : ℕ) → Some a ≡ Some b → a ≡ b
author_is a b e = cc

-- an entry of the longer list is the last one, or stood in the list before
entry_is : {E : Type 0} (now : List E) (e x : E) (k : ℕ) → slice_get (now ++ e ∷ []) k ≡ Some x → (x ≡ e) ⊎ (slice_get now k ≡ Some x)
entry_is now e x k at =
    dite (ℕ_discrete k (length now)) (λ is. let last = at_end now e k is in inl (cc))
    (λ ne. dite (dec_le (length now) k) (λ past. let gone = slice_get_past (now ++ e ∷ []) k (omega (arith, length-append now (e ∷ []))) in absurd (cc))
    (λ inside. inr (sym (at_append now (e ∷ []) k (omega arith)) ∙ at)))

module _ {V E : Type 0} (entries : V → List E) (author : E → Option ℕ) where
  -- The value is at home and stands for this list, or it is out with the one view that has the turn
  abbrev pub Placed : List (Maybe (Option V)) → List E → ℕ → Type 0
  Placed hs now turns = ((value : V) × (hs ≡ some (Some value) ∷ []) × (entries value ≡ now) × (turns ≡ 0)) ⊎ ((hs ≡ none ∷ []) × (turns ≡ 1))

  -- one view changes, and neither its room nor its numbers do
  pub remade : (s : State (Option V) (View E)) (r : Turned entries author s) (id : ℕ) (v w : View E) (ws : List ℕ) (hs : List (Maybe (Option V))) (served drawn : ℕ) (now : List E)
      → get_elem? s.views id ≡ some v → w.room ≡ v.room → w.numbers ≡ v.numbers
      → ws ≡ served % 18446744073709551616 ∷ drawn % 18446744073709551616 ∷ []
      → ((t : ℕ) → has_ticket t w + below served t + below r.drawn t ≡ has_ticket t v + below drawn t + below r.served t)
      → drawn + r.served + waiting v ≡ r.drawn + served + waiting w
      → ((k : ℕ) (e : E) (a : ℕ) → slice_get now k ≡ Some e → author e ≡ Some a → a < total held_of s.views)
      → Fits author served now (total room_of s.views) w
      → ((i : ℕ) (u : View E) → i ≢ id → get_elem? s.views i ≡ some u → Fits author r.served r.now (total room_of s.views) u → Fits author served now (total room_of s.views) u)
      → Placed hs now (total holding (set s.views id w))
      → Turned entries author (record { words = ws; homes = hs; views = set s.views id w })
  remade s r id v w ws hs served drawn now me room numbers words tickets drawn_is known own others place =
      let rooms : total room_of (set s.views id w) ≡ total room_of s.views = omega (arith, total-set room_of s.views id v w me) in
      let helds : total held_of (set s.views id w) ≡ total held_of s.views = omega (arith, total-set held_of s.views id v w me, ap length numbers) in
      record {
        served = served;
        drawn = drawn;
        now = now;
        words = words;
        tickets = λ t. omega (arith, total-set (has_ticket t) s.views id v w me, r.tickets t, tickets t);
        drawn_is = omega (arith, total-set waiting s.views id v w me, r.drawn_is);
        few = omega (arith, r.few);
        once = λ a. omega (arith, total-set (has_number a) s.views id v w me, r.once a, ap (times a) numbers, ap (λ (n : ℕ). below n a) helds);
        known = λ k e a at by. omega (arith, known k e a at by);
        each = λ i u at.
            subst (λ (n : ℕ). Fits author served now n u) (sym rooms)
            (⊎_elim (λ t. subst (λ (x : View E). Fits author served now (total room_of s.views) x) t.1 own) (λ t. others i u t.0 t.1 (r.each i u t.1)) (at_set s.views id i w u at));
        place = place;
      }

  -- a load by which nothing changes
  pub unmoved : (s : State (Option V) (View E)) (r : Turned entries author s) (i id : ℕ) (m : Me (Option V) (View E)) → get_elem? s.views id ≡ some m.0
      → Turned entries author (stepped s i (get_or s.words i 0) id m.1 m.0 keeps)
  unmoved s r i id m me =
      subst₂ (λ (ws : List ℕ) (vs : List (View E)). Turned entries author (record { words = ws; homes = s.homes; views = vs })) (sym (set-get_or s.words i 0)) (sym (set_again s.views id m.0 me)) r

  pub draws : (n id : ℕ) (m : Me (Option V) (View E)) → m.0.waits ≡ false → m.0.holds ≡ false → 0 < held_of m.0
      → Allows (Turned entries author) n id m 1 (λ k. (k + 1) % 18446744073709551616) (Drew (step n 1 1 0 none) m)
  draws n id m free idle has s r long me small =
      let v : View E = m.0 in let w : View E = drawing v r.drawn in
      let f = r.each id v me in
      let found : get_or s.words 1 0 ≡ r.drawn % 18446744073709551616 = ap (λ (ws : List ℕ). get_or ws 1 0) r.words in
      let words : set s.words 1 ((get_or s.words 1 0 + 1) % 18446744073709551616) ≡ r.served % 18446744073709551616 ∷ (r.drawn + 1) % 18446744073709551616 ∷ [] =
      ap (λ (ws : List ℕ). set ws 1 ((get_or ws 1 0 + 1) % 18446744073709551616)) r.words
      ∙ ap (λ (x : ℕ). r.served % 18446744073709551616 ∷ x ∷ []) (mod_next r.drawn) in
      let turns : total holding (set s.views id w) ≡ total holding s.views = omega (arith, total-set holding s.views id v w me) in (
        w,
        keeps,
        tt,
        remade s r id v w (set s.words 1 ((get_or s.words 1 0 + 1) % 18446744073709551616)) s.homes r.served (r.drawn + 1) r.now me refl refl words
            (λ t. omega (arith, ticket_no t v free, ticket_yes t w refl, below_next r.drawn t)) (omega (arith, waiting_no v free, waiting_yes w refl)) r.known
            record {
              counted = omega (arith, waiting_yes w refl);
              front = f.front;
              met = f.met;
              turn = λ h. absurd (true≢false (sym h ∙ idle));
              only_room = f.only_room;
              calls = f.calls;
              seen = f.seen;
            }
            (λ i u ne at fits. fits)
            (⊎_elim (λ p. inl (p.0, p.1, p.2, turns ∙ p.3)) (λ p. inr (p.0, turns ∙ p.1)) r.place),
        (r.drawn, sym found, refl),
      )

  -- nobody has the turn while a ticket that isn't the holder's is served
  home : (s : State (Option V) (View E)) (r : Turned entries author s) (id : ℕ) (v : View E) → get_elem? s.views id ≡ some v → v.waits ≡ true → v.holds ≡ false → v.ticket ≡ r.served
      → (value : V) × (s.homes ≡ some (Some value) ∷ []) × (entries value ≡ r.now) × (total holding s.views ≡ 0)
  home s r id v me waits idle at =
      ⊎_elim (λ p. p)
      (λ p. let t = someone holding s.views (omega (arith, p.1)) in let other = holds_yes t.1 t.3 in let f = r.each t.0 t.1 t.2 in let turn = f.turn other in
      let apart : t.0 ≢ id = λ e. true≢false (sym other ∙ ap (λ (x : View E). x.holds) (same_at s.views t.0 id t.1 v e t.2 me) ∙ idle) in
      let mine : has_ticket r.served v ≡ 1 = ticket_yes r.served v waits ∙ same_yes r.served v.ticket (sym at) in
      let theirs : has_ticket r.served t.1 ≡ 1 = ticket_yes r.served t.1 turn.0 ∙ same_yes r.served t.1.ticket (sym turn.1) in
      absurd (omega (arith, terms_le (has_ticket r.served) s.views id t.0 v t.1 apart me t.2, r.tickets r.served, below_le r.drawn r.served)))
      r.place

  pub looks : (n id : ℕ) (m : Me (Option V) (View E)) → m.0.waits ≡ true → m.0.holds ≡ false
      → Allows (Turned entries author) n id m 0 (λ k. k) (Looked entries author (step n 0 0 0 none) m)
  looks n id m waits idle s r long me small =
      let v : View E = m.0 in let f = r.each id v me in
      let found : get_or s.words 0 0 ≡ r.served % 18446744073709551616 = ap (λ (ws : List ℕ). get_or ws 0 0) r.words in
      let out : has_ticket v.ticket v ≡ 1 = ticket_own v waits in
      let sum = r.tickets v.ticket in let part = term_le (has_ticket v.ticket) s.views id v me in
      let late : v.ticket < r.drawn = below_lt r.drawn v.ticket (omega arith) in
      let unserved : r.served ≤ v.ticket = dite (dec_le r.served v.ticket) (λ y. y) (λ no_. absurd (omega (arith, below_yes r.served v.ticket (omega arith), below_yes r.drawn v.ticket late))) in
      let few : r.drawn ≤ r.served + 65536 = omega (arith, r.drawn_is, r.few, totals_le waiting held_of s.views (λ i u at. (r.each i u at).counted)) in
      dite (ℕ_discrete (get_or s.words 0 0) (v.ticket % 18446744073709551616))
      (λ hit. let at : v.ticket ≡ r.served = served_is r.served r.drawn v.ticket unserved late few (sym found ∙ hit) in
      let h = home s r id v me waits idle at in let value : V = h.0 in let same_list : entries value ≡ r.now = h.2 in
      let w : View E = seizing v (entries value) in
      let fronts : IsPrefix v.front (entries value) = subst (λ (l : List E). IsPrefix v.front l) (sym same_list) f.front in
      let longer = prefix_length v.front (entries value) fronts in (
        w,
        takes 0 (Some value),
        ap (λ (hs : List (Maybe (Option V))). get_elem? hs 0) h.1,
        remade s r id v w (set s.words 0 (get_or s.words 0 0)) (set s.homes 0 none) r.served r.drawn r.now me refl refl (set-get_or s.words 0 0 ∙ r.words) (λ t. let e : has_ticket t w ≡ has_ticket t v = refl in omega arith) refl r.known
            record {
              counted = f.counted;
              front = subst (λ (l : List E). IsPrefix l r.now) (sym same_list) (prefix_self r.now);
              met = f.met;
              turn = λ _. (waits, at, same_list);
              only_room = f.only_room;
              calls = f.calls;
              seen = λ k some_. omega (arith, f.seen k some_);
            }
            (λ i u ne there fits. fits)
            (inr (ap (λ (hs : List (Maybe (Option V))). set hs 0 none) h.1, omega (arith, total-set holding s.views id v w me, holding_no v idle, holding_yes w refl, h.3))),
        ((λ _. (value, refl, fronts, subst (λ (l : List E). AreCalls author v.calls v.numbers l) (sym same_list) f.calls)), λ miss. absurd (miss hit)),
      ))
      (λ miss. (v, keeps, tt, unmoved s r 0 id m me, ((λ hit. absurd (miss hit)), λ _. refl)))

  -- the turn and a value are given back
  given : (s : State (Option V) (View E)) (r : Turned entries author s) (id : ℕ) (v w : View E) (hs : List (Maybe (Option V))) (value : V) (now : List E)
      → get_elem? s.views id ≡ some v → v.holds ≡ true → w.waits ≡ false → w.holds ≡ false → w.room ≡ v.room → w.numbers ≡ v.numbers
      → hs ≡ some (Some value) ∷ [] → entries value ≡ now
      → ((k : ℕ) (e : E) (a : ℕ) → slice_get now k ≡ Some e → author e ≡ Some a → a < total held_of s.views)
      → Fits author (r.served + 1) now (total room_of s.views) w
      → ((i : ℕ) (u : View E) → i ≢ id → get_elem? s.views i ≡ some u → u.holds ≡ false → Fits author r.served r.now (total room_of s.views) u → Fits author (r.served + 1) now (total room_of s.views) u)
      → Turned entries author (record { words = set s.words 0 ((get_or s.words 0 0 + 1) % 18446744073709551616); homes = hs; views = set s.views id w })
  given s r id v w hs value now me has free idle room numbers homes list known own others =
      let turn = (r.each id v me).turn has in
      let one : holding v ≡ 1 = holding_yes v has in
      let turns : total holding s.views ≡ 1 = ⊎_elim (λ p. absurd (omega (arith, p.3, term_le holding s.views id v me))) (λ p. p.1) r.place in
      let words : set s.words 0 ((get_or s.words 0 0 + 1) % 18446744073709551616) ≡ (r.served + 1) % 18446744073709551616 ∷ r.drawn % 18446744073709551616 ∷ [] =
      ap (λ (ws : List ℕ). set ws 0 ((get_or ws 0 0 + 1) % 18446744073709551616)) r.words
      ∙ ap (λ (x : ℕ). x ∷ r.drawn % 18446744073709551616 ∷ []) (mod_next r.served) in
      remade s r id v w (set s.words 0 ((get_or s.words 0 0 + 1) % 18446744073709551616)) hs (r.served + 1) r.drawn now me room numbers words
      (λ t. omega (arith, ticket_yes t v turn.0, ap (same t) turn.1, ticket_no t w free, below_next r.served t))
      (omega (arith, waiting_yes v turn.0, waiting_no w free)) known own
      (λ i u ne at fits. others i u ne at (holds_no u (omega (arith, terms_le holding s.views id i v u ne me at))) fits)
      (inl (value, homes, list, omega (arith, total-set holding s.views id v w me, holding_no w idle)))

  -- where the holder's slot comes home
  slot_home : (s : State (Option V) (View E)) (r : Turned entries author s) (id : ℕ) (v : View E) (x : Option V) → get_elem? s.views id ≡ some v → v.holds ≡ true → set s.homes 0 (some x) ≡ some x ∷ []
  slot_home s r id v x me has =
      ⊎_elim (λ p. absurd (omega (arith, p.3, term_le holding s.views id v me, holding_yes v has))) (λ p. ap (λ (hs : List (Maybe (Option V))). set hs 0 (some x)) p.0) r.place

  pub gives_back : (n id : ℕ) (v : View E) (value : V) (more : List (ℕ × Option V)) → v.holds ≡ true → entries value ≡ v.front
      → Allows (Turned entries author) n id (v, (0, Some value) ∷ more) 0 (λ k. (k + 1) % 18446744073709551616) (Gave (step n 0 1 0 none) (v, (0, Some value) ∷ more))
  gives_back n id v value more has list s r long me small =
      let f = r.each id v me in let turn = f.turn has in let w : View E = giving v v.front v.calls in (
        w,
        gives,
        tt,
        given s r id v w (set s.homes 0 (some (Some value))) value r.now me has refl refl refl refl (slot_home s r id v (Some value) me has) (list ∙ turn.2) r.known
            record {
              counted = omega (arith, waiting_no w refl);
              front = f.front;
              met = f.met;
              turn = λ h. absurd (true≢false (sym h));
              only_room = f.only_room;
              calls = f.calls;
              seen = f.seen;
            }
            (λ i u ne at idle fits. record {
              counted = fits.counted;
              front = fits.front;
              met = fits.met;
              turn = λ h. absurd (true≢false (sym h ∙ idle));
              only_room = fits.only_room;
              calls = fits.calls;
              seen = fits.seen;
            }),
        refl,
      )

  pub gives_more : (n id : ℕ) (v : View E) (value : V) (e : E) (a : ℕ) (more : List (ℕ × Option V)) → v.holds ≡ true → entries value ≡ v.front ++ e ∷ [] → author e ≡ Some a → slice_get v.numbers 0 ≡ Some a
      → Allows (Turned entries author) n id (v, (0, Some value) ∷ more) 0 (λ k. (k + 1) % 18446744073709551616) (Added entries author (step n 0 1 0 none) (v, (0, Some value) ∷ more))
  gives_more n id v value e a more has list by mine s r long me small =
      let f = r.each id v me in let turn = f.turn has in
      let grown : r.now ++ e ∷ [] ≡ entries value = sym (list ∙ ap (λ (l : List E). l ++ e ∷ []) turn.2) in
      let calls : List ℕ = v.calls ++ length v.front ∷ [] in
      let w : View E = giving v (entries value) calls in
      let count : ℕ = total held_of s.views in
      let made = r.once a in let bound = below_le count a in
      let here : 0 < has_number a v = first_in a v.numbers mine in
      let part = term_le (has_number a) s.views id v me in
      let once : has_number a v ≡ 1 = omega arith in
      let is_made : a < count = below_lt count a (omega arith) in
      let stood : stands v.numbers (author e) ≡ 1 = ap (stands v.numbers) by ∙ once in
      let whole : length v.front ≡ length r.now = ap length turn.2 in
      let longer : length (entries value) ≡ length r.now + 1 = ap length (sym grown) ∙ length-append r.now (e ∷ []) in
      let added : AreCalls author calls v.numbers (entries value) =
      subst₂ (λ (c : ℕ) (l : List E). AreCalls author (v.calls ++ c ∷ []) v.numbers l) (sym whole) grown
      (calls_added author v.calls v.numbers r.now e (λ k h. omega (arith, f.seen k h)) stood f.calls) in
      let tail : IsPrefix r.now (entries value) = (e ∷ [], grown) in (
        w,
        gives,
        tt,
        given s r id v w (set s.homes 0 (some (Some value))) value (entries value) me has refl refl refl refl (slot_home s r id v (Some value) me has) refl
            (λ k x b at wrote_by. ⊎_elim (λ is. let same_author : b ≡ a = author_is b a (sym wrote_by ∙ (ap author is ∙ by)) in omega arith) (λ there. r.known k x b there wrote_by)
            (entry_is r.now e x k (ap (λ (l : List E). slice_get l k) grown ∙ at)))
            record {
              counted = omega (arith, waiting_no w refl);
              front = prefix_self (entries value);
              met = prefix_trans v.met r.now (entries value) f.met tail;
              turn = λ h. absurd (true≢false (sym h));
              only_room = f.only_room;
              calls = added;
              seen = λ k h. dite (dec_le 1 (times k v.calls)) (λ y. omega (arith, f.seen k y)) (λ none_. omega (arith, is_last k (length v.front) (omega (arith, total-append (same k) v.calls (length v.front ∷ [])))));
            }
            (λ i u ne at idle fits. let theirs = terms_le (has_number a) s.views id i v u ne me at in record {
              counted = fits.counted;
              front = prefix_trans u.front r.now (entries value) fits.front tail;
              met = prefix_trans u.met r.now (entries value) fits.met tail;
              turn = λ h. absurd (true≢false (sym h ∙ idle));
              only_room = fits.only_room;
              calls = subst (λ (l : List E). AreCalls author u.calls u.numbers l) grown (calls_kept author u.calls u.numbers r.now e (λ k h. omega (arith, fits.seen k h, prefix_length u.front r.now fits.front)) (ap (stands u.numbers) by ∙ omega arith) fits.calls);
              seen = fits.seen;
            }),
        λ other rest_ is. (ap₂ (λ (x : V) (l : List (ℕ × Option V)). (giving v (entries x) calls, l)) (value_is value other more rest_ is) (more_is value other more rest_ is), subst (λ (x : V). AreCalls author calls v.numbers (entries x)) (value_is value other more rest_ is) added),
      )

  pub settles : (n id : ℕ) (m : Me (Option V) (View E)) → Allows (Turned entries author) n id m 0 (λ k. k) (Settled author (step n 0 0 0 none) m)
  settles n id m s r long me small =
      let v : View E = m.0 in let f = r.each id v me in (
        v,
        keeps,
        tt,
        unmoved s r 0 id m me,
        (
          refl,
          (λ le. prefix_shorter v.met v.front r.now f.met f.front le),
          calls_front author v.calls v.numbers v.front r.now f.front f.seen f.calls,
          omega (arith, r.few, term_le room_of s.views id v me, term_le held_of s.views id v me),
        ),
      )

  -- the same of a seat that is known by equations
  pub draws_at : (n id : ℕ) (m : Me (Option V) (View E)) (number : ℕ) → m.0.waits ≡ false → m.0.holds ≡ false → slice_get m.0.numbers 0 ≡ Some number
      → Allows (Turned entries author) n id m 1 (λ k. (k + 1) % 18446744073709551616) (Drew (step n 1 1 0 none) m)
  draws_at n id m number free idle mine = draws n id m free idle (first_some number m.0.numbers mine)

  pub gives_back_at : (n id : ℕ) (m : Me (Option V) (View E)) (v : View E) (value : V) (more : List (ℕ × Option V)) → m ≡ (v, (0, Some value) ∷ more) → v.holds ≡ true → entries value ≡ v.front
      → Allows (Turned entries author) n id m 0 (λ k. (k + 1) % 18446744073709551616) (Gave (step n 0 1 0 none) m)
  gives_back_at n id m v value more is has list =
      subst (λ (x : Me (Option V) (View E)). Allows (Turned entries author) n id x 0 (λ k. (k + 1) % 18446744073709551616) (Gave (step n 0 1 0 none) x)) (sym is) (gives_back n id v value more has list)

  pub gives_more_at : (n id : ℕ) (m : Me (Option V) (View E)) (v : View E) (value : V) (e : E) (a : ℕ) (more : List (ℕ × Option V)) → m ≡ (v, (0, Some value) ∷ more) → v.holds ≡ true → entries value ≡ v.front ++ e ∷ []
      → author e ≡ Some a → slice_get v.numbers 0 ≡ Some a
      → Allows (Turned entries author) n id m 0 (λ k. (k + 1) % 18446744073709551616) (Added entries author (step n 0 1 0 none) m)
  gives_more_at n id m v value e a more is has list by mine =
      subst (λ (x : Me (Option V) (View E)). Allows (Turned entries author) n id x 0 (λ k. (k + 1) % 18446744073709551616) (Added entries author (step n 0 1 0 none) x)) (sym is) (gives_more n id v value e a more has list by mine)
