-- What is known goes on to hold: of looks, of turns, and where all is counted anew.
use Rattle.std.proofs.Common.{◌≡◌, ℕ, suc, ◌+◌, ◌<◌, ◌≤◌, Bool, true, false, List, [], length}
use Rattle.std.proofs.Common.{inl, inr, Option, None, Some, Ok, refl, sym, ap, subst, ◌∙◌, true≢false, eqb-true, arith}
use Rattle.std.proofs.Common.{le-leb, leb-true}
use Rattle.std.proofs.lemmas.Bool.Decides.{eqb_tells}
use Rattle.std.proofs.lemmas.Option.{slice_get_within}
use Rattle.std.specs.Prelude.{nat_le, slice_get, slice_set, ◌==◌}
use Rattle.eval_collecting.specs.Matching.{local_match}
use Rattle.eval_world.specs.declared.world.World.{World}
use Rattle.world_laws.specs.Extends.{Extends}
use Rattle.collecting_laws.proofs.Elsewhere.{others_untouched}
use Rattle.collecting_laws.proofs.Looking.{collectors_rise, look_extends, quiet_again, touched_rises}
use Rattle.collecting_laws.proofs.Noting.{good_on, known_on}
use Rattle.collecting_laws.specs.Looks.{IsQuiet, touched_at}
use Rattle.collecting_laws.specs.Notes.{AreGood, IsKnown, Notes}
use Rattle.defined_types.specs.Watched.{Watched, clock_risen, counted, is_noted, noted_by, opened, risen, same_by}
use Rattle.defined_types.specs.Watched.{told_from, told_if, told_now, turned}
use Rattle.defined_types.specs.declared.watchlist.Told.{Told}
use Rattle.defined_types.proofs.Tables.{counted_at, counted_length, opened_at, put_by, told_cases, told_length, value}

-- ---- what is noted

abbrev pub note_if : Bool → ℕ → Option ℕ
note_if true touched = Some touched
note_if false touched = None

abbrev pub note_by : Option Told → Option ℕ → Option ℕ
note_by None turn = None
note_by (Some t) None = None
note_by (Some t) (Some turn) = note_if (nat_le t.risen turn) t.touched

abbrev pub notes_of : List Told → List ℕ → Notes
notes_of told turns = λ c n. note_by (slice_get told n) (slice_get turns c)

told_note : (told : List Told) (turns : List ℕ) (c n k : ℕ) (t : Told) → slice_get told n ≡ Some t →
    slice_get turns c ≡ Some k → t.risen ≤ k → notes_of told turns c n ≡ Some t.touched
told_note told turns c n k t at turn early =
    ap (λ o. note_by o (slice_get turns c)) at ∙ ap (note_by (Some t)) turn
    ∙ ap (λ b. note_if b t.touched) (le-leb t.risen k early)

-- where nothing was told there is no note
pub no_note : {P : Type 0} (c n touched : ℕ) → notes_of [] [] c n ≡ Some touched → P
no_note c n touched e = absurd cc

-- a note is what was told of a declaration, which rose before the collector's turn
note_if_from : {P : Type 0} (b : Bool) (t : Told) (k touched : ℕ) → nat_le t.risen k ≡ b →
    note_if b t.touched ≡ Some touched → (t.risen ≤ k → t.touched ≡ touched → P) → P
note_if_from true t k touched is e next = next (leb-true t.risen k is) (value e)
note_if_from false t k touched is e next = absurd cc

note_by_from : {P : Type 0} (touched : ℕ) (o : Option Told) (turn : Option ℕ) → note_by o turn ≡ Some touched →
    ((t : Told) (k : ℕ) → o ≡ Some t → turn ≡ Some k → t.risen ≤ k → t.touched ≡ touched → P) → P
note_by_from touched None turn e next = absurd cc
note_by_from touched (Some t) None e next = absurd cc
note_by_from touched (Some t) (Some k) e next =
    note_if_from (nat_le t.risen k) t k touched refl e (next t k refl refl)

note_from : {P : Type 0} (told : List Told) (turns : List ℕ) (c n touched : ℕ) →
    notes_of told turns c n ≡ Some touched →
    ((t : Told) (k : ℕ) → slice_get told n ≡ Some t → slice_get turns c ≡ Some k → t.risen ≤ k →
    t.touched ≡ touched → P) → P
note_from told turns c n touched e next = note_by_from touched (slice_get told n) (slice_get turns c) e next

-- ---- states

pub record IsGood (s : Watched) : Type 0 where
  pub good : AreGood (notes_of s.told s.turns) s.world
  pub within : length s.told ≤ length s.world.book
  pub late : (n : ℕ) (t : Told) → slice_get s.told n ≡ Some t → 0 < t.risen
  pub early : (n : ℕ) (t : Told) → slice_get s.told n ≡ Some t → t.risen ≤ s.clock
  pub begun : (c k : ℕ) → slice_get s.turns c ≡ Some k → k ≤ s.clock
  pub low : (n : ℕ) (t : Told) → slice_get s.told n ≡ Some t → t.touched ≤ touched_at s.world n

-- what was told is how it is
abbrev pub IsFresh : Watched → Type 0
IsFresh s = (n : ℕ) (t : Told) → slice_get s.told n ≡ Some t → t.touched ≡ touched_at s.world n

-- the world goes on, by what is no look
pub world_on : (s : Watched) (w : World) (looks : ℕ) → Extends s.world w → IsGood s →
    IsGood (record s { world = w; looks = looks })
world_on s w looks extends g = record {
  good = good_on (notes_of s.told s.turns) s.world w extends g.good;
  within = let longer = extends.declarations.longer in let within = g.within in omega (arith, longer, within);
  late = g.late;
  early = g.early;
  begun = g.begun;
  low = λ n t at.
      let low = g.low n t at in let there = slice_get_within s.told n t at in let within = g.within in
      let rises = touched_rises n s.world w extends (omega (arith, there, within)) in omega (arith, low, rises);
}

-- ---- a turn

-- In the turn of a collector that began at this time: of the first declarations all that rose before is known.
pub record Turning (c begun n : ℕ) (s : Watched) : Type 0 where
  pub is_good : IsGood s
  pub fresh : IsFresh s
  pub there : c < length s.world.relations.collectors
  pub since : begun ≤ s.clock
  pub done : (m : ℕ) (t : Told) → m < n → slice_get s.told m ≡ Some t → t.risen ≤ begun → IsKnown s.world c m t.touched

pub turn_begins : (c : ℕ) (s : Watched) → IsGood s → IsFresh s → c < length s.world.relations.collectors →
    Turning c s.clock 0 s
turn_begins c s good fresh there = record {
  is_good = good;
  fresh = fresh;
  there = there;
  since = omega arith;
  done = λ m t none at early. absurd (omega (arith, none));
}

turn_good : (c begun n : ℕ) (s : Watched) → length s.told ≤ n → Turning c begun n s →
    AreGood (notes_of s.told (slice_set s.turns c begun)) s.world
turn_good c begun n s all turning = record {
  placed = turning.is_good.good.placed;
  known = λ d m touched e. note_from s.told (slice_set s.turns c begun) d m touched e (λ t k at turn early same.
      put_by s.turns c d begun k turn
      (λ here now.
      let below : m < n = let within = slice_get_within s.told m t at in omega (arith, within, all) in
      subst (λ x. IsKnown s.world x m touched) (sym here) (subst (IsKnown s.world c m) same
      (turning.done m t below at (omega (arith, early, now)))))
      (λ other before.
      turning.is_good.good.known d m touched
      (told_note s.told s.turns d m k t at before early ∙ ap (λ x. Some x) same)));
}

-- once all were gone through, so it is known of the collector
pub turn_ends : (c begun n : ℕ) (s : Watched) → length s.told ≤ n → Turning c begun n s →
    IsGood (turned c begun s) × IsFresh (turned c begun s)
turn_ends c begun n s all turning = (
  record {
    good = turn_good c begun n s all turning;
    within = turning.is_good.within;
    late = turning.is_good.late;
    early = turning.is_good.early;
    begun = λ d k at. put_by s.turns c d begun k at
        (λ here now. let since = turning.since in omega (arith, now, since))
        (λ other before. turning.is_good.begun d k before);
    low = turning.is_good.low;
  },
  turning.fresh,
)

-- ---- a look that is passed over

noted_from : {P : Type 0} (o : Option Told) (turn : Option ℕ) → noted_by o turn ≡ true →
    ((t : Told) (k : ℕ) → o ≡ Some t → turn ≡ Some k → t.risen ≤ k → P) → P
noted_from None turn e next = absurd (true≢false (sym e))
noted_from (Some t) None e next = absurd (true≢false (sym e))
noted_from (Some t) (Some k) e next = next t k refl refl (leb-true t.risen k e)

one_further : {P : ℕ → Type 0} (n : ℕ) → ((m : ℕ) → m < n → P m) → P n → (m : ℕ) → m < suc n → P m
one_further {P = P} n before now m below = elim (eqb_tells m n) [
  | inl same ↦ subst P (sym same.1) now
  | inr other ↦ before m (let apart = other.1 in omega (arith, below, apart))
]

pub noted_known : (c n : ℕ) (s : Watched) → IsGood s → IsFresh s → is_noted c n s ≡ true →
    (t : Told) → slice_get s.told n ≡ Some t → IsKnown s.world c n t.touched
noted_known c n s good fresh noted t at =
    noted_from (slice_get s.told n) (slice_get s.turns c) noted (λ u k at_u turn early.
    let same : u ≡ t = value (sym at_u ∙ at) in
    good.good.known c n t.touched
    (told_note s.told s.turns c n k u at_u turn early ∙ ap (λ (x : Told). Some x.touched) same))

pub noted_quiet : (c n : ℕ) (s : Watched) → IsGood s → IsFresh s → is_noted c n s ≡ true → IsQuiet s.world c n
noted_quiet c n s good fresh noted =
    noted_from (slice_get s.told n) (slice_get s.turns c) noted (λ t k at turn early.
    (noted_known c n s good fresh noted t at).quiet (sym (fresh n t at)))

pub passed_over : (c begun n : ℕ) (s : Watched) → Turning c begun n s → is_noted c n s ≡ true →
    Turning c begun (suc n) s
passed_over c begun n s turning noted = record {
  is_good = turning.is_good;
  fresh = turning.fresh;
  there = turning.there;
  since = turning.since;
  done = λ m t below. one_further {P = λ x. slice_get s.told x ≡ Some t → t.risen ≤ begun → IsKnown s.world c x
      t.touched}
      n (λ x less at early. turning.done x t less at early)
      (λ at early. noted_known c n s turning.is_good turning.fresh noted t at) m below;
}

-- ---- a look

module _ (c begun n : ℕ) (s : Watched) (w : World) (a : Bool) (looks : ℕ) (turning : Turning c begun n s)
    (below : n < length s.world.book) (look : local_match c n s.world ≡ Ok (a, w)) where
  abbrev then_world : Watched
  then_world = record s { world = w; looks = looks }

  abbrev same : Bool
  same = same_by (slice_get s.told n) (touched_at w n)

  abbrev after : Watched
  after = risen n (touched_at w n) then_world

  extends : Extends s.world w
  extends = look_extends c n s.world w a look

  clock_on : (b : Bool) → s.clock ≤ clock_risen b s.clock
  clock_on true = omega arith
  clock_on false = omega arith

  -- what was told before is told of as much, unless it rose
  as_much : (t : Told) → same ≡ true → slice_get s.told n ≡ Some t → t.touched ≡ touched_at w n
  as_much t is at = eqb-true t.touched (touched_at w n) (sym (ap (λ o. same_by o (touched_at w n)) at) ∙ is)

  known_row : (d m touched : ℕ) → notes_of after.told s.turns d m ≡ Some touched → IsKnown w d m touched
  known_row d m touched e = note_from after.told s.turns d m touched e (λ t k at turn early is.
      told_cases same n (touched_at w n) s.told s.clock m t at
      (λ rose here now.
      let late = turning.is_good.begun d k turn in let at_time : suc s.clock ≡ t.risen = ap (λ (x : Told). x.risen)
      now in
      absurd (omega (arith, early, late, at_time)))
      (λ here before.
      known_on s.world w d m touched turning.is_good.good.placed extends
      (turning.is_good.good.known d m touched
      (told_note s.told s.turns d m k t before turn early ∙ ap (λ x. Some x) is))))

  untouched : (m : ℕ) → ¬ (m ≡ n) → touched_at w m ≡ touched_at s.world m
  untouched m other = others_untouched c n m s.world w a turning.is_good.good.placed.apart other look

  fresh_by : (m : ℕ) (t : Told) → (m ≡ n → same ≡ true) → slice_get s.told m ≡ Some t → t.touched ≡ touched_at w m
  fresh_by m t here before = elim (eqb_tells m n) [
    | inl is ↦ subst (λ x. slice_get s.told x ≡ Some t →
        t.touched ≡ touched_at w x) (sym is.1) (as_much t (here is.1)) before
    | inr other ↦ turning.fresh m t before ∙ sym (untouched m other.1)
  ]

  fresh_row : IsFresh after
  fresh_row m t at = told_cases same n (touched_at w n) s.told s.clock m t at
      (λ rose here now. sym (ap (λ (x : Told). x.touched) now) ∙ ap (touched_at w) (sym here))
      (λ here before. fresh_by m t here before)

  good_row : IsGood after
  good_row = record {
    good = record { placed = extends.placed turning.is_good.good.placed; known = known_row };
    within =
        let count = told_length same n (touched_at w n) s.told s.clock in
        let longer = extends.declarations.longer in let within = turning.is_good.within in
        omega (arith, count, longer, within);
    late = λ m t at. told_cases same n (touched_at w n) s.told s.clock m t at
        (λ rose here now. let time : suc s.clock ≡ t.risen = ap (λ (x : Told). x.risen) now in omega (arith, time))
        (λ here before. turning.is_good.late m t before);
    early = λ m t at. told_cases same n (touched_at w n) s.told s.clock m t at
        (λ rose here now.
        let time : suc s.clock ≡ t.risen = ap (λ (x : Told). x.risen) now in
        let clock : clock_risen same s.clock ≡ suc s.clock = ap (λ b. clock_risen b s.clock) rose in
        omega (arith, time, clock))
        (λ here before.
        let early = turning.is_good.early m t before in let on = clock_on same in omega (arith, early, on));
    begun = λ d k at. let begun = turning.is_good.begun d k at in let on = clock_on same in omega (arith, begun, on);
    low = λ m t at. let same_now = fresh_row m t at in omega (arith, same_now);
  }

  there_now : c < length w.relations.collectors
  there_now = let more = collectors_rise s.world w extends in let there = turning.there in omega (arith, more, there)

  known_now : (t : Told) → slice_get after.told n ≡ Some t → t.risen ≤ begun → IsKnown w c n t.touched
  known_now t at early = record {
    there = there_now;
    below = let longer = extends.declarations.longer in omega (arith, longer, below);
    risen = let same_now = fresh_row n t at in omega (arith, same_now);
    quiet = λ as_many. quiet_again c n s.world w a look;
  }

  done_row : (m : ℕ) (t : Told) → m < n → slice_get after.told m ≡ Some t → t.risen ≤ begun → IsKnown w c m t.touched
  done_row m t less at early = told_cases same n (touched_at w n) s.told s.clock m t at
      (λ rose here now. absurd (omega (arith, here, less)))
      (λ here before.
      known_on s.world w c m t.touched turning.is_good.good.placed extends (turning.done m t less before early))

  pub looked_at : Turning c begun (suc n) after
  looked_at = record {
    is_good = good_row;
    fresh = fresh_row;
    there = there_now;
    since = let since = turning.since in let on = clock_on same in omega (arith, since, on);
    done = λ m t below_next. one_further {P = λ x. slice_get after.told x ≡ Some t → t.risen ≤ begun → IsKnown w c x
        t.touched}
        n (λ x less. done_row x t less) (known_now t) m below_next;
  }

-- ---- all is counted anew

module _ (s : Watched) (good : IsGood s) where
  counted_told : (n : ℕ) (t : Told) →
      slice_get (told_from s.world s.told (suc s.clock) 0 (length s.world.book)) n ≡ Some t →
      told_now (slice_get s.told n) (touched_at s.world n) (suc s.clock) ≡ t
  counted_told n t at =
      let zero_on : 0 + n ≡ n = omega arith in
      ap (λ k. told_now (slice_get s.told k) (touched_at s.world k) (suc s.clock)) (sym zero_on)
      ∙ counted_at s.world s.told (suc s.clock) 0 (length s.world.book) n t at

  -- what rose now, or what was told of it before, and is so still
  counted_if_by : {P : Type 0} (b : Bool) (u t : Told) (touched now : ℕ) → (u.touched == touched) ≡ b →
      told_if b u touched now ≡ t → (record { touched = touched; risen = now } ≡ t → P) →
      (u ≡ t → u.touched ≡ touched → P) → P
  counted_if_by true u t touched now is e rose before = before e (eqb-true u.touched touched is)
  counted_if_by false u t touched now is e rose before = rose e

  counted_by : {P : Type 0} (o : Option Told) (t : Told) (touched now : ℕ) → told_now o touched now ≡ t →
      (record { touched = touched; risen = now } ≡ t → P) → (o ≡ Some t → t.touched ≡ touched → P) → P
  counted_by None t touched now e rose before = rose e
  counted_by (Some u) t touched now e rose before =
      counted_if_by (u.touched == touched) u t touched now refl e rose
      (λ same as_many. before (ap (λ x. Some x) same) (sym (ap (λ (x : Told). x.touched) same) ∙ as_many))

  count_cases : {P : Type 0} (n : ℕ) (t : Told) →
      slice_get (told_from s.world s.told (suc s.clock) 0 (length s.world.book)) n ≡ Some t →
      (record { touched = touched_at s.world n; risen = suc s.clock } ≡ t → P) →
      (slice_get s.told n ≡ Some t → t.touched ≡ touched_at s.world n → P) → P
  count_cases n t at rose before =
      counted_by (slice_get s.told n) t (touched_at s.world n) (suc s.clock) (counted_told n t at) rose before

  known_counted : (c n touched : ℕ) → notes_of (told_from s.world s.told (suc s.clock) 0 (length s.world.book))
      (opened s.turns (length s.world.relations.collectors)) c n ≡ Some touched → IsKnown s.world c n touched
  known_counted c n touched e = note_from _ _ c n touched e (λ t k at turn early is.
      elim (opened_at s.turns (length s.world.relations.collectors) c k turn) [
        | inl old ↦ count_cases n t at
            (λ rose.
            let begun = good.begun c k old in let time : suc s.clock ≡ t.risen = ap (λ (x : Told). x.risen) rose in
            absurd (omega (arith, early, begun, time)))
            (λ before as_many.
            good.good.known c n touched (told_note s.told s.turns c n k t before old early ∙ ap (λ x. Some x) is))
        | inr none ↦ count_cases n t at
            (λ rose.
            let time : suc s.clock ≡ t.risen = ap (λ (x : Told). x.risen) rose in absurd
            (omega (arith, early, none, time)))
            (λ before as_many. let late = good.late n t before in absurd (omega (arith, early, none, late)))
      ])

  pub counted_good : IsGood (counted s)
  unfolding counted
  counted_good = record {
    good = record { placed = good.good.placed; known = known_counted };
    within =
        let count = counted_length s.world s.told (suc s.clock) 0 (length s.world.book) in omega (arith, count);
    late = λ n t at. count_cases n t at
        (λ rose. let time : suc s.clock ≡ t.risen = ap (λ (x : Told). x.risen) rose in omega (arith, time))
        (λ before as_many. good.late n t before);
    early = λ n t at. count_cases n t at
        (λ rose. let time : suc s.clock ≡ t.risen = ap (λ (x : Told). x.risen) rose in omega (arith, time))
        (λ before as_many. let early = good.early n t before in omega (arith, early));
    begun = λ c k at. elim (opened_at s.turns (length s.world.relations.collectors) c k at) [
      | inl old ↦ let begun = good.begun c k old in omega (arith, begun)
      | inr none ↦ omega (arith, none)
    ];
    low = λ n t at. count_cases n t at
        (λ rose. let as_many : touched_at s.world n ≡ t.touched = ap (λ (x : Told). x.touched) rose in omega
        (arith, as_many))
        (λ before as_many. omega (arith, as_many));
  }

  pub counted_fresh : IsFresh (counted s)
  unfolding counted
  counted_fresh n t at = count_cases n t at
      (λ rose. sym (ap (λ (x : Told). x.touched) rose))
      (λ before as_many. as_many)
