-- Counts of what holds a step back, as steps are done.
use Rattle.std.proofs.Common.{◌≡◌, ◌≢◌, ◌⊎◌, ℕ, suc, ◌+◌, ◌<◌, ◌≤◌, Bool, true, false, cond, List, [], ◌∷◌, ◌++◌, length, get_or, set, slice_index, Contains, inl, inr, refl, sym, subst, ap, ◌∙◌, arith, length-append, take, length-take-le, drop, drop-cons, add-one, length-set, get_or-set_same, get_or-set_other}
use Rattle.std.specs.Prelude.{nat_eq}
use Rattle.std.proofs.lemmas.Bool.Decides.{eqb_tells}
use Rattle.std.proofs.lemmas.List.Elements.{Contains-push, Contains-push_cases, Contains-append_left}
use Rattle.std.proofs.lemmas.List.{take_more, get_or_default}
use Rattle.rel_graph.specs.Pairs.{AllBelow}
use Rattle.rel_graph.specs.Releases.{times, targets, waiting, weight, Released}
use Rattle.rel_graph.proofs.TargetLemmas.{targets_few}

-- ---- targets, one after another

times_here : (t : ℕ) (rest : List ℕ) → times (t ∷ rest) t ≡ suc (times rest t)
times_here t rest = elim (eqb_tells t t) [
  | inl same ↦
      let e : times (t ∷ rest) t ≡ 1 + times rest t = ap (λ b. cond b 1 0 + times rest t) same.0 in
      omega (arith, e)
  | inr other ↦ absurd (other.1 refl)
]

times_other : (t v : ℕ) (rest : List ℕ) → v ≢ t → times (t ∷ rest) v ≡ times rest v
times_other t v rest ne = elim (eqb_tells v t) [
  | inl same ↦ absurd (ne same.1)
  | inr other ↦
      let e : times (t ∷ rest) v ≡ 0 + times rest v = ap (λ b. cond b 1 0 + times rest v) other.0 in
      omega (arith, e)
]

pub drop_at : (xs : List ℕ) (i : ℕ) → i < length xs → drop i xs ≡ get_or xs i 0 ∷ drop (i + 1) xs
drop_at xs i h = rw (add-one, drop-cons xs i 0) refl

-- The counts of some targets went down, and those of the rest are still to go down.
pub record Releasing (all rest old waits before free : List ℕ) : Type 0 where
  pub long : length waits ≡ length old
  pub enough : (v : ℕ) → v < length old → times rest v ≤ slice_index waits v
  pub counted : (v : ℕ) → v < length old → slice_index waits v + times all v ≡ slice_index old v + times rest v
  pub fewer : (v : ℕ) → slice_index waits v ≤ slice_index old v
  pub room : length free + length rest ≤ length before + length all
  pub kept : (v : ℕ) → Contains before v → Contains free v
  pub freed : (v : ℕ) → slice_index waits v ≡ 0 → 0 < slice_index old v → Contains free v
  pub sound : (v : ℕ) → Contains free v → Contains before v ⊎ ((slice_index waits v ≡ 0) × (0 < slice_index old v))

pub held : (all rest old waits before free : List ℕ) (t : ℕ) → Releasing all (t ∷ rest) old waits before free →
    t < length old → 1 ≤ slice_index waits t
held all rest old waits before free t r h = let a = r.enough t h in let b = times_here t rest in omega (arith, a, b)

pub releasing_start : (all old before : List ℕ) → ((v : ℕ) → v < length old → times all v ≤ slice_index old v) →
    Releasing all all old old before before
releasing_start all old before enough = record {
  long = refl;
  enough = enough;
  counted = λ v _. refl;
  fewer = λ v. omega arith;
  room = omega arith;
  kept = λ v c. c;
  freed = λ v none some. absurd (omega (arith, none, some));
  sound = λ v c. inl c;
}

pub releasing_end : (all old waits before free : List ℕ) → Releasing all [] old waits before free →
    Released all old waits before free
releasing_end all old waits before free r = record {
  long = r.long;
  counted = λ v h. (let e = r.counted v h in omega (arith, e));
  room = (let e = r.room in omega (arith, e));
  kept = r.kept;
  freed = r.freed;
  sound = r.sound;
}

module _ (all rest old waits before free : List ℕ) (t w : ℕ) (r : Releasing all (t ∷ rest) old waits before free)
    (within : t < length waits) (is : w + 1 ≡ slice_index waits t) where
  abbrev after : List ℕ
  after = set waits t w

  here : slice_index after t ≡ w
  here = get_or-set_same waits t w 0 within

  there : (v : ℕ) → v ≢ t → slice_index after v ≡ slice_index waits v
  there v ne = get_or-set_other waits t v w 0 ne

  old_within : t < length old
  old_within = (let e = r.long in omega (arith, e, within))

  enough_next : (v : ℕ) → v < length old → times rest v ≤ slice_index after v
  enough_next v h = elim (eqb_tells v t) [
    | inl same ↦ subst (λ x. times rest x ≤ slice_index after x) (sym same.1)
        (let a = r.enough t old_within in let b = times_here t rest in let c = here in omega (arith, a, b, c, is))
    | inr other ↦
        let a = r.enough v h in let b = times_other t v rest other.1 in let c = there v other.1 in
        omega (arith, a, b, c)
  ]

  counted_next : (v : ℕ) → v < length old → slice_index after v + times all v ≡ slice_index old v + times rest v
  counted_next v h = elim (eqb_tells v t) [
    | inl same ↦ subst (λ x. slice_index after x + times all x ≡ slice_index old x + times rest x) (sym same.1)
        (let a = r.counted t old_within in let b = times_here t rest in let c = here in omega (arith, a, b, c, is))
    | inr other ↦
        let a = r.counted v h in let b = times_other t v rest other.1 in let c = there v other.1 in
        omega (arith, a, b, c)
  ]

  fewer_next : (v : ℕ) → slice_index after v ≤ slice_index old v
  fewer_next v = elim (eqb_tells v t) [
    | inl same ↦ subst (λ x. slice_index after x ≤ slice_index old x) (sym same.1)
        (let a = r.fewer t in let c = here in omega (arith, a, c, is))
    | inr other ↦ let a = r.fewer v in let c = there v other.1 in omega (arith, a, c)
  ]

  -- what was free before is not the target, which was still held back
  sound_kept : (v : ℕ) → Contains free v → Contains before v ⊎ ((slice_index after v ≡ 0) × (0 < slice_index old v))
  sound_kept v c = elim (r.sound v c) [
    | inl b ↦ inl b
    | inr z ↦ elim (eqb_tells v t) [
      | inl same ↦ absurd
          (let none : slice_index waits t ≡ 0 = subst (λ x. slice_index waits x ≡ 0) same.1 z.0 in
          omega (arith, none, is))
      | inr other ↦ inr (there v other.1 ∙ z.0, z.1)
    ]
  ]

  pub releasing_held : 0 < w → Releasing all rest old after before free
  releasing_held some = record {
    long = length-set waits t w ∙ r.long;
    enough = enough_next;
    counted = counted_next;
    fewer = fewer_next;
    room = (let n = r.room in omega (arith, n));
    kept = r.kept;
    freed = λ v none left. elim (eqb_tells v t) [
      | inl same ↦ absurd
          (let z : slice_index after t ≡ 0 = subst (λ x. slice_index after x ≡ 0) same.1 none in
          let c = here in omega (arith, z, c, some))
      | inr other ↦ r.freed v (sym (there v other.1) ∙ none) left
    ];
    sound = sound_kept;
  }

  pub releasing_free : w ≡ 0 → Releasing all rest old after before (free ++ t ∷ [])
  releasing_free no_more = record {
    long = length-set waits t w ∙ r.long;
    enough = enough_next;
    counted = counted_next;
    fewer = fewer_next;
    room = (let n = r.room in let m = length-append free (t ∷ []) in omega (arith, n, m));
    kept = λ v c. Contains-append_left free (t ∷ []) v (r.kept v c);
    freed = λ v none left. elim (eqb_tells v t) [
      | inl same ↦ subst (λ x. Contains (free ++ t ∷ []) x) (sym same.1) (Contains-push free t)
      | inr other ↦ Contains-append_left free (t ∷ []) v (r.freed v (sym (there v other.1) ∙ none) left)
    ];
    sound = λ v c. elim (Contains-push_cases free t v c) [
      | inl old_one ↦ sound_kept v old_one
      | inr same ↦ inr (subst (λ x. (slice_index after x ≡ 0) × (0 < slice_index old x)) same
          (let a = r.fewer t in (here ∙ no_more, omega (arith, a, is))))
    ];
  }

-- ---- counts of arrows

abbrev one_waiting : List Bool → ℕ × ℕ → ℕ → ℕ
one_waiting done a v = cond (nat_eq v a.1) (cond (get_or done a.0 false) 0 1) 0

same_both : (b : Bool) (n : ℕ) → ◌≡◌ {A = ℕ} (cond b n n) n
same_both true n = refl
same_both false n = refl

-- to be done takes one from each step for each arrow to it
one_arrow : (done : List Bool) (u v : ℕ) (a : ℕ × ℕ) (arrows : List (ℕ × ℕ)) → u < length done →
    get_or done u false ≡ false →
    waiting (set done u true) arrows v + times (targets arrows u) v ≡ waiting done arrows v →
    waiting (set done u true) (a ∷ arrows) v + times (targets (a ∷ arrows) u) v ≡ waiting done (a ∷ arrows) v
one_arrow done u v a arrows within undone rest = elim (eqb_tells u a.0) [
  | inl same ↦
      let now : get_or (set done u true) a.0 false ≡ true =
      subst (λ x. get_or (set done u true) x false ≡ true) same.1 (get_or-set_same done u true false within) in
      let before : get_or done a.0 false ≡ false = subst (λ x. get_or done x false ≡ false) same.1 undone in
      let left : waiting (set done u true) (a ∷ arrows) v ≡
      cond (nat_eq v a.1) 0 0 + waiting (set done u true) arrows v =
      ap (λ b. cond (nat_eq v a.1) (cond b 0 1) 0 + waiting (set done u true) arrows v) now in
      let right : waiting done (a ∷ arrows) v ≡ cond (nat_eq v a.1) 1 0 + waiting done arrows v =
      ap (λ b. cond (nat_eq v a.1) (cond b 0 1) 0 + waiting done arrows v) before in
      let named : times (targets (a ∷ arrows) u) v ≡ cond (nat_eq v a.1) 1 0 + times (targets arrows u) v =
      ap (λ b. times (cond b (a.1 ∷ targets arrows u) (targets arrows u)) v) same.0 in
      let none = same_both (nat_eq v a.1) 0 in
      omega (arith, left, right, named, none, rest)
  | inr other ↦
      let same : get_or (set done u true) a.0 false ≡ get_or done a.0 false =
      get_or-set_other done u a.0 true false (λ e. other.1 (sym e)) in
      let left : waiting (set done u true) (a ∷ arrows) v ≡
      one_waiting done a v + waiting (set done u true) arrows v =
      ap (λ b. cond (nat_eq v a.1) (cond b 0 1) 0 + waiting (set done u true) arrows v) same in
      let named : times (targets (a ∷ arrows) u) v ≡ times (targets arrows u) v =
      ap (λ b. times (cond b (a.1 ∷ targets arrows u) (targets arrows u)) v) other.0 in
      let right : waiting done (a ∷ arrows) v ≡ one_waiting done a v + waiting done arrows v = refl in
      omega (arith, left, right, named, rest)
]

pub waiting_done : (done : List Bool) (arrows : List (ℕ × ℕ)) (u v : ℕ) → u < length done →
    get_or done u false ≡ false →
    waiting (set done u true) arrows v + times (targets arrows u) v ≡ waiting done arrows v
waiting_done done [] u v within undone = refl
waiting_done done (a ∷ arrows) u v within undone =
    one_arrow done u v a arrows within undone (waiting_done done arrows u v within undone)

-- one arrow more, where nothing is done
pub waiting_more : (arrows : List (ℕ × ℕ)) (a : ℕ × ℕ) (v : ℕ) →
    waiting [] (arrows ++ a ∷ []) v ≡ waiting [] arrows v + cond (nat_eq v a.1) 1 0
waiting_more [] a v = omega arith
waiting_more (x ∷ arrows) a v = let rest = waiting_more arrows a v in omega (arith, rest)

pub waiting_few : (arrows : List (ℕ × ℕ)) (v : ℕ) → waiting [] arrows v ≤ length arrows
waiting_few [] v = omega arith
waiting_few (a ∷ arrows) v =
    let rest = waiting_few arrows v in
    elim (nat_eq v a.1) as (λ (b : Bool). cond {A = ℕ} b 1 0 + waiting [] arrows v ≤ suc (length arrows)) [
      | true ↦ omega (arith, rest)
      | false ↦ omega (arith, rest)
    ]

-- no step is marked, however long the marks are
pub waiting_unmarked : (done : List Bool) (arrows : List (ℕ × ℕ)) (v : ℕ) →
    ((u : ℕ) → get_or done u false ≡ false) → waiting [] arrows v ≡ waiting done arrows v
waiting_unmarked done [] v none = refl
waiting_unmarked done (a ∷ arrows) v none =
    let rest = waiting_unmarked done arrows v none in
    let here : waiting done (a ∷ arrows) v ≡ cond (nat_eq v a.1) 1 0 + waiting done arrows v =
    ap (λ b. cond (nat_eq v a.1) (cond b 0 1) 0 + waiting done arrows v) (none a.0) in
    omega (arith, rest, here)

-- ---- turns

-- each turn leaves fewer
pub turn_more : (arrows : List (ℕ × ℕ)) (v u w r m : ℕ) → w + 1 ≡ u → m ≤ r + length (targets arrows v) →
    weight w (length arrows) + m ≤ weight u (length arrows) + r
turn_more arrows v u w r m one few =
    let t = targets_few arrows v in
    let more : weight u (length arrows) ≡ (length arrows + 1) + weight w (length arrows) =
    ap (λ n. weight n (length arrows)) (let e : u ≡ suc w = omega (arith, one) in e) in
    omega (arith, t, more, few)

-- ---- counts at first

module _ (arrows : List (ℕ × ℕ)) (n i old : ℕ) (waits : List ℕ) (inside : i < length arrows)
    (below : AllBelow arrows n) (long : length waits ≡ n)
    (counted : (x : ℕ) → x < n → slice_index waits x ≡ waiting [] (take i arrows) x)
    (read : old ≡ get_or waits (get_or arrows i (0, 0)).1 old) where
  abbrev to : ℕ
  to = (get_or arrows i (0, 0)).1

  to_below : to < n
  to_below = (below i (0, 0) inside).1

  was : old ≡ get_or waits to 0
  was = read ∙ get_or_default waits to old 0 (let b = to_below in omega (arith, b, long))

  pub count_fits : old < length arrows
  count_fits =
      let a = counted to to_below in
      let b = waiting_few (take i arrows) to in
      let e = length-take-le i arrows (omega (arith, inside)) in
      let w = was in
      omega (arith, a, b, e, w, inside)

  more : (x : ℕ) → waiting [] (take (i + 1) arrows) x ≡ waiting [] (take i arrows) x + cond (nat_eq x to) 1 0
  more x = ap (λ l. waiting [] l x) (take_more arrows i (0, 0) inside) ∙ waiting_more (take i arrows) (get_or arrows i
      (0, 0)) x

  pub count_more : (x : ℕ) → x < n →
      slice_index (set waits to (old + 1)) x ≡ waiting [] (take (i + 1) arrows) x
  count_more x h = elim (eqb_tells x to) [
    | inl same ↦ subst (λ y. slice_index (set waits to (old + 1)) y ≡ waiting [] (take (i + 1) arrows) y) (sym same.1)
        (let e : slice_index (set waits to (old + 1)) to ≡ old + 1 =
        get_or-set_same waits to (old + 1) 0 (let b = to_below in omega (arith, b, long)) in
        let a = counted to to_below in
        let m : waiting [] (take (i + 1) arrows) to ≡ waiting [] (take i arrows) to + 1 =
        more to ∙ ap (λ (b : Bool). waiting [] (take i arrows) to + cond b 1 0) (ap (λ y. nat_eq y to) (sym same.1) ∙
        same.0) in
        let w = was in
        omega (arith, e, a, m, w))
    | inr other ↦
        let e : slice_index (set waits to (old + 1)) x ≡ slice_index waits x =
        get_or-set_other waits to x (old + 1) 0 other.1 in
        let a = counted x h in
        let m : waiting [] (take (i + 1) arrows) x ≡ waiting [] (take i arrows) x + 0 =
        more x ∙ ap (λ (b : Bool). waiting [] (take i arrows) x + cond b 1 0) other.0 in
        omega (arith, e, a, m)
  ]
