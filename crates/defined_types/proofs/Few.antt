-- What looks may have cost rises with each look.
use Rattle.std.proofs.Common.{◌≡◌, ℕ, zero, suc, ◌+◌, ◌-◌, ◌<◌, ◌≤◌, Bool, true, false, ◌&&◌, cond, List, [], ◌∷◌, ◌++◌}
use Rattle.std.proofs.Common.{length, inl, inr, Option, None, Some, refl, sym, ap, subst, ◌∙◌, true≢false, arith}
use Rattle.std.proofs.Common.{eq-eqb, le-leb, ltb-false, ltb-true, lt-ltb, le-ltb, ne_eqb}
use Rattle.std.proofs.lemmas.Bool.Decides.{eqb_tells}
use Rattle.std.proofs.lemmas.Option.{slice_get_past, slice_get_within}
use Rattle.std.specs.Prelude.{nat_le, nat_lt, slice_get, slice_set, ◌==◌}
use Rattle.eval_world.specs.declared.world.World.{World}
use Rattle.collecting_laws.specs.Looks.{touched_at}
use Rattle.defined_types.specs.Watched.{noted_by, no_turns, opened, same_by, told_from, told_if, told_now, told_risen}
use Rattle.defined_types.specs.declared.watchlist.Told.{Told}
use Rattle.defined_types.proofs.Sums.{cell, cost, cost_le, cost_one}

-- ---- one cell

pub flag_le : (b : Bool) → cond {A = ℕ} b 1 0 ≤ 1
flag_le true = omega arith
flag_le false = omega arith

-- with a turn that began after it rose
pub cell_full : (t : Told) (turn : Option ℕ) (begun : ℕ) → t.risen ≤ begun →
    cell (Some t) turn ≤ cell (Some t) (Some begun)
cell_full t None begun early = omega arith
cell_full t (Some k) begun early =
    let one : cond {A = ℕ} (nat_le t.risen begun) 1 0 ≡ 1 = ap (λ b. cond {A = ℕ} b 1 0) (le-leb t.risen begun early) in
    let flag = flag_le (nat_le t.risen k) in omega (arith, one, flag)

-- where it rose, it is so much more at least
cell_risen : (t u : Told) (turn : Option ℕ) → suc t.touched ≤ u.touched → cell (Some t) turn ≤ cell (Some u) turn
cell_risen t u None more = omega arith
cell_risen t u (Some k) more = let flag = flag_le (nat_le t.risen k) in omega (arith, more, flag)

less_by : (a b : ℕ) → (a == b) ≡ false → a ≤ b → suc a ≤ b
less_by a b other less = elim (eqb_tells a b) [
  | inl same ↦ absurd (true≢false (sym same.0 ∙ other))
  | inr apart ↦ let no = apart.1 in omega (arith, no, less)
]

-- what is told anew
pub cell_now : (t : Told) (x now : ℕ) (turn : Option ℕ) (b : Bool) → (t.touched == x) ≡ b → t.touched ≤ x →
    cell (Some t) turn ≤ cell (Some (told_if b t x now)) turn
cell_now t x now turn true is low = omega arith
cell_now t x now turn false is low =
    cell_risen t (record { touched = x; risen = now }) turn (less_by t.touched x is low)

-- a look at what was not noted
not_noted : (t : Told) (turn : Option ℕ) → noted_by (Some t) turn ≡ false → cell (Some t) turn ≤ t.touched
not_noted t None is = omega arith
not_noted t (Some k) is =
    let none : cond {A = ℕ} (nat_le t.risen k) 1 0 ≡ 0 = ap (λ b. cond {A = ℕ} b 1 0) is in omega (arith, none)

pub cell_looked : (t : Told) (x now begun : ℕ) (turn : Option ℕ) (b : Bool) → (t.touched == x) ≡ b → t.touched ≤ x →
    t.risen ≤ begun → noted_by (Some t) turn ≡ false →
    suc (cell (Some t) turn) ≤ cell (Some (told_if b t x now)) (Some begun)
cell_looked t x now begun turn true is low early none =
    let one : cond {A = ℕ} (nat_le t.risen begun) 1 0 ≡ 1 = ap (λ b. cond {A = ℕ} b 1 0) (le-leb t.risen begun early) in
    let before = not_noted t turn none in omega (arith, one, before)
cell_looked t x now begun turn false is low early none =
    let more = less_by t.touched x is low in let before = not_noted t turn none in omega (arith, more, before)

-- ---- tables

set_here : {A : Type 0} (xs : List A) (n : ℕ) (x : A) → n < length xs → slice_get (slice_set xs n x) n ≡ Some x
set_here [] n x below = absurd (omega (arith, below))
set_here (y ∷ ys) zero x below = refl
set_here (y ∷ ys) (suc n) x below = set_here ys n x (omega (arith, below))

set_other : {A : Type 0} (xs : List A) (n m : ℕ) (x : A) → ¬ (m ≡ n) → slice_get (slice_set xs n x) m ≡ slice_get xs m
set_other [] n m x other = refl
set_other (y ∷ ys) zero zero x other = absurd (other refl)
set_other (y ∷ ys) zero (suc m) x other = refl
set_other (y ∷ ys) (suc n) zero x other = refl
set_other (y ∷ ys) (suc n) (suc m) x other = set_other ys n m x (λ e. other (ap suc e))

risen_other : (b : Bool) (n x : ℕ) (told : List Told) (clock m : ℕ) → ¬ (m ≡ n) →
    slice_get (told_risen b n x told clock) m ≡ slice_get told m
risen_other true n x told clock m other = refl
risen_other false n x told clock m other = set_other told n m (record { touched = x; risen = suc clock }) other

risen_here : (b : Bool) (n x : ℕ) (told : List Told) (clock : ℕ) (t : Told) → slice_get told n ≡ Some t →
    slice_get (told_risen b n x told clock) n ≡ Some (told_if b t x (suc clock))
risen_here true n x told clock t at = at
risen_here false n x told clock t at =
    set_here told n (record { touched = x; risen = suc clock }) (slice_get_within told n t at)

-- ---- the turns of a collector that is at a declaration: before it those that began now

pub turns_at : List ℕ → ℕ → ℕ → ℕ → ℕ → ℕ → Option ℕ
turns_at turns c begun n d m = cond ((d == c) && nat_lt m n) (Some begun) (slice_get turns d)

at_other : (turns : List ℕ) (c begun n d m : ℕ) → ¬ (d ≡ c) → turns_at turns c begun n d m ≡ slice_get turns d
unfolding turns_at
at_other turns c begun n d m other = ap (λ b. cond (b && nat_lt m n) (Some begun) (slice_get turns d))
    (ne_eqb d c other)

at_before : (turns : List ℕ) (c begun n m : ℕ) → m < n → turns_at turns c begun n c m ≡ Some begun
unfolding turns_at
at_before turns c begun n m less =
    ap (λ b. cond (b && nat_lt m n) (Some begun) (slice_get turns c)) (eq-eqb c c refl)
    ∙ ap (λ b. cond b (Some begun) (slice_get turns c)) (lt-ltb m n less)

at_behind : (turns : List ℕ) (c begun n m : ℕ) → n ≤ m → turns_at turns c begun n c m ≡ slice_get turns c
unfolding turns_at
at_behind turns c begun n m past =
    ap (λ b. cond (b && nat_lt m n) (Some begun) (slice_get turns c)) (eq-eqb c c refl)
    ∙ ap (λ b. cond b (Some begun) (slice_get turns c)) (le-ltb m n past)

-- at the first declaration no turn began
pub at_first : (turns : List ℕ) (c begun d m : ℕ) → turns_at turns c begun 0 d m ≡ slice_get turns d
unfolding turns_at
at_first turns c begun d m = elim (eqb_tells d c) [
  | inl same ↦ subst (λ x. turns_at turns c begun 0 x m ≡ slice_get turns x) (sym same.1)
      (at_behind turns c begun 0 m (omega arith))
  | inr other ↦ at_other turns c begun 0 d m other.1
]

-- ---- what is told is one more declaration along

module _ (told : List Told) (turns : List ℕ) (c begun : ℕ) where
  abbrev at : ℕ → ℕ → ℕ → ℕ
  at n d m = cell (slice_get told m) (turns_at turns c begun n d m)

  cell_there : (n last m : ℕ) (o : Option Told) → slice_get told m ≡ o →
      ((t : Told) → n ≤ m → o ≡ Some t → t.risen ≤ begun) → n ≤ m → m < last →
      cell o (turns_at turns c begun n c m) ≤ cell o (turns_at turns c begun last c m)
  cell_there n last m None is early past below = omega arith
  cell_there n last m (Some t) is early past below =
      subst (λ k. cell (Some t) (turns_at turns c begun n c m) ≤ cell (Some t) k)
      (sym (at_before turns c begun last m below))
      (cell_full t (turns_at turns c begun n c m) begun (early t past refl))

  same_cell : (n last d m : ℕ) → turns_at turns c begun n d m ≡ turns_at turns c begun last d m → at n d m ≤ at last d m
  same_cell n last d m same =
      let e : at n d m ≡ at last d m = ap (cell (slice_get told m)) same in omega (arith, e)

  -- those of the collector between here and there, which rose before its turn
  of_collector : (n last m : ℕ) → n ≤ last → ((k : ℕ) (t : Told) → n ≤ k → slice_get told k ≡ Some t →
      t.risen ≤ begun) →
      (b e : Bool) → nat_lt m n ≡ b → nat_lt m last ≡ e → at n c m ≤ at last c m
  of_collector n last m up early true e is there =
      same_cell n last c m (at_before turns c begun n m (ltb-true m n is)
      ∙ sym (at_before turns c begun last m (let less = ltb-true m n is in omega (arith, less, up))))
  of_collector n last m up early false true is there =
      cell_there n last m (slice_get told m) refl (λ t past found. early m t past found) (ltb-false m n is)
      (ltb-true m last there)
  of_collector n last m up early false false is there =
      same_cell n last c m (at_behind turns c begun n m (ltb-false m n is)
      ∙ sym (at_behind turns c begun last m (ltb-false m last there)))

  pub along : (n last d m : ℕ) → n ≤ last → ((k : ℕ) (t : Told) → n ≤ k → slice_get told k ≡ Some t → t.risen ≤ begun) →
      at n d m ≤ at last d m
  along n last d m up early = elim (eqb_tells d c) [
    | inl same ↦ subst (λ x. at n x m ≤ at last x m) (sym same.1)
        (of_collector n last m up early (nat_lt m n) (nat_lt m last) refl refl)
    | inr other ↦
        same_cell n last d m (at_other turns c begun n d m other.1 ∙ sym (at_other turns c begun last d m other.1))
  ]

  pub cost_along : (cs ns n last : ℕ) → n ≤ last →
      ((k : ℕ) (t : Told) → n ≤ k → slice_get told k ≡ Some t → t.risen ≤ begun) →
      cost cs ns told (turns_at turns c begun n) ≤ cost cs ns told (turns_at turns c begun last)
  cost_along cs ns n last up early =
      cost_le told told (turns_at turns c begun n) (turns_at turns c begun last) cs ns
      (λ d m. along n last d m up early)

-- ---- a look

module _ (told : List Told) (turns : List ℕ) (c begun n x clock : ℕ) (t : Told) (found : slice_get told n ≡ Some t)
    (low : t.touched ≤ x) (early : t.risen ≤ begun) where
  abbrev same : Bool
  same = same_by (slice_get told n) x

  same_is : (t.touched == x) ≡ same
  same_is = sym (ap (λ o. same_by o x) found)

  abbrev then_told : List Told
  then_told = told_risen same n x told clock

  then_here : slice_get then_told n ≡ Some (told_if same t x (suc clock))
  then_here = risen_here same n x told clock t found

  abbrev before : ℕ → ℕ → ℕ
  before d m = cell (slice_get told m) (turns_at turns c begun n d m)

  abbrev behind : ℕ → ℕ → ℕ
  behind d m = cell (slice_get then_told m) (turns_at turns c begun (suc n) d m)

  others_same : (d m : ℕ) → ¬ (m ≡ n) → before d m ≤ behind d m
  others_same d m other =
      let one : before d m ≡ cell (slice_get then_told m) (turns_at turns c begun n d m) =
      ap (λ o. cell o (turns_at turns c begun n d m)) (sym (risen_other same n x told clock m other)) in
      let two : turns_at turns c begun n d m ≡ turns_at turns c begun (suc n) d m = same_turn (nat_lt m n) refl in
      let three = ap (cell (slice_get then_told m)) two in omega (arith, one, three) where
        of_it : (b : Bool) → nat_lt m n ≡ b → turns_at turns c begun n c m ≡ turns_at turns c begun (suc n) c m
        of_it true is =
            at_before turns c begun n m (ltb-true m n is)
            ∙ sym (at_before turns c begun (suc n) m (let less = ltb-true m n is in omega (arith, less)))
        of_it false is =
            at_behind turns c begun n m (ltb-false m n is)
            ∙ sym (at_behind turns c begun (suc n) m (let past = ltb-false m n is in omega (arith, past, other)))

        same_turn : (b : Bool) → nat_lt m n ≡ b → turns_at turns c begun n d m ≡ turns_at turns c begun (suc n) d m
        same_turn b is = elim (eqb_tells d c) [
          | inl here ↦ subst (λ k. turns_at turns c begun n k m ≡ turns_at turns c begun (suc n) k m) (sym here.1)
              (of_it b is)
          | inr apart ↦ at_other turns c begun n d m apart.1 ∙ sym (at_other turns c begun (suc n) d m apart.1)
        ]

  -- of another collector
  here_other : (d : ℕ) → ¬ (d ≡ c) → before d n ≤ behind d n
  here_other d other =
      let one : before d n ≡ cell (Some t) (slice_get turns d) =
      ap (λ o. cell o (turns_at turns c begun n d n)) found ∙ ap (cell (Some t)) (at_other turns c begun n d n other) in
      let two : behind d n ≡ cell (Some (told_if same t x (suc clock))) (slice_get turns d) =
      ap (λ o. cell o (turns_at turns c begun (suc n) d n)) then_here
      ∙ ap (cell (Some (told_if same t x (suc clock)))) (at_other turns c begun (suc n) d n other) in
      let less = cell_now t x (suc clock) (slice_get turns d) same same_is low in omega (arith, one, two, less)

  module _ (none : noted_by (Some t) (slice_get turns c) ≡ false) where
    here_more : suc (before c n) ≤ behind c n
    here_more =
        let one : before c n ≡ cell (Some t) (slice_get turns c) =
        ap (λ o. cell o (turns_at turns c begun n c n)) found
        ∙ ap (cell (Some t)) (at_behind turns c begun n n (omega arith)) in
        let two : behind c n ≡ cell (Some (told_if same t x (suc clock))) (Some begun) =
        ap (λ o. cell o (turns_at turns c begun (suc n) c n)) then_here
        ∙ ap (cell (Some (told_if same t x (suc clock)))) (at_before turns c begun (suc n) n (omega arith)) in
        let more = cell_looked t x (suc clock) begun (slice_get turns c) same same_is low early none in
        omega (arith, one, two, more)

    all_rise : (d m : ℕ) → before d m ≤ behind d m
    all_rise d m = elim (eqb_tells m n) [
      | inl here ↦ subst (λ k. before d k ≤ behind d k) (sym here.1) (elim (eqb_tells d c) [
        | inl it ↦ subst (λ k. before k n ≤ behind k n) (sym it.1) (let more = here_more in omega (arith, more))
        | inr other ↦ here_other d other.1
      ])
      | inr apart ↦ others_same d m apart.1
    ]

    pub look_costs : (cs ns : ℕ) → c < cs → n < ns →
        suc (cost cs ns told (turns_at turns c begun n)) ≤ cost cs ns then_told (turns_at turns c begun (suc n))
    look_costs cs ns there below =
        cost_one told then_told (turns_at turns c begun n) (turns_at turns c begun (suc n)) cs ns c n all_rise there
        below
        here_more

-- ---- a turn ends

abbrev pub plain : List ℕ → ℕ → ℕ → Option ℕ
plain turns d m = slice_get turns d

ended : (told : List Told) (turns : List ℕ) (c begun all d m : ℕ) → length told ≤ all → c < length turns →
    cell (slice_get told m) (turns_at turns c begun all d m) ≤ cell (slice_get told m)
    (slice_get (slice_set turns c begun) d)
ended told turns c begun all d m whole there = elim (eqb_tells d c) [
  | inl it ↦ subst (λ k. cell (slice_get told m) (turns_at turns c begun all k m)
      ≤ cell (slice_get told m) (slice_get (slice_set turns c begun) k)) (sym it.1) (of_it (nat_lt m all) refl)
  | inr other ↦
      let e : cell (slice_get told m) (turns_at turns c begun all d m)
      ≡ cell (slice_get told m) (slice_get (slice_set turns c begun) d) =
      ap (cell (slice_get told m))
      (at_other turns c begun all d m other.1 ∙ sym (set_other turns c d begun other.1)) in omega (arith, e)
] where
  of_it : (b : Bool) → nat_lt m all ≡ b → cell (slice_get told m) (turns_at turns c begun all c m)
      ≤ cell (slice_get told m) (slice_get (slice_set turns c begun) c)
  of_it true is =
      let e : cell (slice_get told m) (turns_at turns c begun all c m)
      ≡ cell (slice_get told m) (slice_get (slice_set turns c begun) c) =
      ap (cell (slice_get told m))
      (at_before turns c begun all m (ltb-true m all is) ∙ sym (set_here turns c begun there)) in omega (arith, e)
  of_it false is =
      let past = ltb-false m all is in
      let none : slice_get told m ≡ None = slice_get_past told m (omega (arith, past, whole)) in
      let e : cell (slice_get told m) (turns_at turns c begun all c m) ≡ 0 =
      ap (λ o. cell o (turns_at turns c begun all c m)) none in omega (arith, e)

pub end_costs : (told : List Told) (turns : List ℕ) (c begun all cs ns : ℕ) → length told ≤ all → c < length turns →
    cost cs ns told (turns_at turns c begun all) ≤ cost cs ns told (plain (slice_set turns c begun))
end_costs told turns c begun all cs ns whole there =
    cost_le told told (turns_at turns c begun all) (plain (slice_set turns c begun)) cs ns
    (λ d m. ended told turns c begun all d m whole there)

pub begin_costs : (told : List Told) (turns : List ℕ) (c begun cs ns : ℕ) →
    cost cs ns told (plain turns) ≤ cost cs ns told (turns_at turns c begun 0)
begin_costs told turns c begun cs ns =
    cost_le told told (plain turns) (turns_at turns c begun 0) cs ns (λ d m.
    let e = ap (cell (slice_get told m)) (at_first turns c begun d m) in omega (arith, e))

-- ---- all is counted anew

told_there : (w : World) (old : List Told) (now n left m : ℕ) → m < left →
    slice_get (told_from w old now n left) m ≡ Some (told_now (slice_get old (n + m)) (touched_at w (n + m)) now)
unfolding told_from
told_there w old now n zero m below = absurd (omega (arith, below))
told_there w old now n (suc left) zero below =
    let here : n ≡ n + 0 = omega arith in ap (λ k. Some (told_now (slice_get old k) (touched_at w k) now)) here
told_there w old now n (suc left) (suc m) below =
    let there : n + 1 + m ≡ n + suc m = omega arith in
    told_there w old now (n + 1) left m (omega (arith, below))
    ∙ ap (λ k. Some (told_now (slice_get old k) (touched_at w k) now)) there

front : {A : Type 0} (xs ys : List A) (n : ℕ) (x : A) → slice_get xs n ≡ Some x → slice_get (xs ++ ys) n ≡ Some x
front [] ys n x at = absurd cc
front (y ∷ ys) zs zero x at = at
front (y ∷ ys) zs (suc n) x at = front ys zs n x at

module _ (w : World) (told : List Told) (turns : List ℕ) (clock count cs ns : ℕ) (within : length told ≤ length w.book)
    (low : (n : ℕ) (t : Told) → slice_get told n ≡ Some t → t.touched ≤ touched_at w n) where
  abbrev anew : List Told
  anew = told_from w told (suc clock) 0 (length w.book)

  cell_anew : (d m : ℕ) (o : Option Told) (k : Option ℕ) → slice_get told m ≡ o → slice_get turns d ≡ k →
      cell o k ≤ cell (slice_get anew m) (slice_get (opened turns count) d)
  cell_anew d m None k is turn = omega arith
  cell_anew d m (Some t) None is turn = omega arith
  cell_anew d m (Some t) (Some k) is turn =
      let below = slice_get_within told m t is in
      let row : slice_get anew m ≡ Some (told_if (t.touched == touched_at w m) t (touched_at w m) (suc clock)) =
      told_there w told (suc clock) 0 (length w.book) m (omega (arith, below, within))
      ∙ ap (λ x. Some (told_now (slice_get told x) (touched_at w x) (suc clock))) (zero_on m)
      ∙ ap (λ o. Some (told_now o (touched_at w m) (suc clock))) is in
      let e : cell (slice_get anew m) (slice_get (opened turns count) d)
      ≡ cell (Some (told_if (t.touched == touched_at w m) t (touched_at w m) (suc clock))) (Some k) =
      ap (λ o. cell o (slice_get (opened turns count) d)) row
      ∙ ap (cell (Some (told_if (t.touched == touched_at w m) t (touched_at w m) (suc clock))))
      (front turns (no_turns (count - length turns)) d k turn) in
      let less = cell_now t (touched_at w m) (suc clock) (Some k) (t.touched == touched_at w m) refl (low m t is) in
      omega (arith, e, less) where
        zero_on : (m : ℕ) → 0 + m ≡ m
        zero_on m = omega arith

  pub count_costs : cost cs ns told (plain turns) ≤ cost cs ns anew (plain (opened turns count))
  count_costs =
      cost_le told anew (plain turns) (plain (opened turns count)) cs ns
      (λ d m. cell_anew d m (slice_get told m) (slice_get turns d) refl refl)
