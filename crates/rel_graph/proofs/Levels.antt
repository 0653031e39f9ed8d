-- Distances, level by level.
use Rattle.std.proofs.Common.{◌≡◌, ◌⊎◌, ℕ, zero, suc, Bool, true, false, ◌+◌, ◌<◌, ◌≤◌, List, [], ◌∷◌, length, map, get_or, set, replicate, Option, Some, None, inl, inr, refl, sym, subst, subst₂, ap, ◌∙◌, arith, true≢false, add-one, take, drop, ◌++◌, is_some, not, count_by, Contains, get_or-set_same, get_or-set_other}
use Rattle.std.proofs.lemmas.List.Elements.{Contains-push, Contains-push_cases, Contains-append_left}
use Rattle.std.proofs.lemmas.Bool.{cases_lt}
use Rattle.std.proofs.lemmas.Bool.Decides.{eqb_tells}
use Rattle.std.proofs.lemmas.List.{get_or_past, take_more}
use lib.ListN.{get_or-replicate, length-replicate}
use Rattle.rel_graph.specs.Chains.{Chain}
use Rattle.rel_graph.specs.Marks.{Marked}
use Rattle.rel_graph.specs.Pairs.{flip}
use Rattle.rel_graph.proofs.Flips.{direct_flip, direct_back}
use Rattle.rel_graph.specs.Before.{Direct}
use Rattle.rel_graph.specs.Distances.{distance, AreDistances}
use Rattle.rel_graph.specs.Visits.{AreNew, AreVisited}
use Rattle.rel_graph.specs.declared.ways.Ways.{Ways}
use Rattle.rel_graph.proofs.Marking.{marked_within}
use Rattle.rel_graph.proofs.VisitLemmas.{none_in}

-- c is so many steps from the goal
abbrev pub At : List (Option ℕ) → ℕ → ℕ → ℕ → Type 0
At numbers goal c zero = c ≡ goal
At numbers goal c (suc i) = distance numbers c ≡ Some i

-- All that are fewer steps away than the level have their numbers, those at the level are in front, and what has a
-- number
-- is marked.
pub record Levels (R : ℕ → ℕ → Type 0) (numbers : List (Option ℕ)) (inner : List Bool) (front : List ℕ) (goal level : ℕ)
    : Type 0 where
  pub sound : (x k : ℕ) → distance numbers x ≡ Some k →
      (between : List ℕ) × (length between ≡ k) × Chain R x between goal
  pub low : (x k : ℕ) → distance numbers x ≡ Some k → k < level
  pub closed : (c j x : ℕ) → At numbers goal c j → j < level → R x c → (k : ℕ) × (distance numbers x ≡ Some k) × (k ≤ j)
  pub at_front : (c : ℕ) → Contains front c → At numbers goal c level
  pub back : (c : ℕ) → At numbers goal c level → Contains front c
  pub numbered : (x : ℕ) → Marked inner x → (k : ℕ) × (distance numbers x ≡ Some k)
  pub marked : (x k : ℕ) → distance numbers x ≡ Some k → Marked inner x

bool_cases : (b : Bool) → (b ≡ true) ⊎ (b ≡ false)
bool_cases true = inl refl
bool_cases false = inr refl

option_cases : (o : Option ℕ) → (o ≡ None) ⊎ ((k : ℕ) × (o ≡ Some k))
option_cases None = inl refl
option_cases (Some k) = inr (k, refl)

pub some_is : (o : Option ℕ) → is_some o ≡ true → (k : ℕ) × (o ≡ Some k)
some_is None e = absurd (true≢false (sym e))
some_is (Some k) e = (k, refl)

none≢some : (o : Option ℕ) (k : ℕ) → o ≡ None → o ≡ Some k → ⊥
none≢some o k e f = cc

some_same : (o : Option ℕ) (j k : ℕ) → o ≡ Some j → o ≡ Some k → j ≡ k
some_same o j k e f = cc

module _ (R : ℕ → ℕ → Type 0) (numbers after : List (Option ℕ)) (inner inner' : List Bool) (front found : List ℕ)
    (goal level : ℕ) (l : Levels R numbers inner front goal level) (news : AreNew inner inner' found)
    (leads : (c x : ℕ) → Contains front c → R x c → Marked inner' x)
    (led : (x : ℕ) → Contains found x → (c : ℕ) × Contains front c × R x c)
    (given : (x : ℕ) → Contains found x → distance after x ≡ Some level)
    (kept : (x : ℕ) → ¬ (Contains found x) → distance after x ≡ distance numbers x) where
  after_old : (x k : ℕ) → distance numbers x ≡ Some k → distance after x ≡ Some k
  after_old x k e = kept x (λ c. news.unmarked x c (l.marked x k e)) ∙ e

  after_cases : (x k : ℕ) → distance after x ≡ Some k → (distance numbers x ≡ Some k) ⊎ ((k ≡ level) × Contains found x)
  after_cases x k e = elim (bool_cases (get_or inner' x false)) [
    | inl on ↦ elim (news.all x on) [
      | inl old ↦
          let n = l.numbered x old in
          inl (n.1 ∙ ap (λ m. Some m) (some_same (distance after x) n.0 k (after_old x n.0 n.1) e))
      | inr c ↦ inr (some_same (distance after x) k level e (given x c), c)
    ]
    | inr off ↦ inl (sym (kept x (λ c. true≢false (sym (news.marked x c) ∙ off))) ∙ e)
  ]

  at_old : (c j : ℕ) → j ≤ level → At after goal c j → At numbers goal c j
  at_old c zero h a = a
  at_old c (suc i) h a = elim (after_cases c i a) [
    | inl old ↦ old
    | inr new ↦ absurd (let e = new.0 in omega (arith, e, h))
  ]

  chain_new : (x c n : ℕ) → At numbers goal c n → R x c →
      (between : List ℕ) × (length between ≡ n) × Chain R x between goal
  chain_new x c zero a r = ([], refl, subst (λ z. R x z) a r)
  chain_new x c (suc i) a r = let s = l.sound c i a in (c ∷ s.0, ap suc s.1, (r, s.2))

  sound_after : (x k : ℕ) → distance after x ≡ Some k →
      (between : List ℕ) × (length between ≡ k) × Chain R x between goal
  sound_after x k e = elim (after_cases x k e) [
    | inl old ↦ l.sound x k old
    | inr new ↦
        let to = led x new.1 in
        subst (λ n. (between : List ℕ) × (length between ≡ n) ×
        Chain R x between goal) (sym new.0) (chain_new x to.0 level (l.at_front to.0 to.1) to.2)
  ]

  low_after : (x k : ℕ) → distance after x ≡ Some k → k < suc level
  low_after x k e = elim (after_cases x k e) [
    | inl old ↦ let h = l.low x k old in omega (arith, h)
    | inr new ↦ let h = new.0 in omega (arith, h)
  ]

  closed_at : (c x : ℕ) → At numbers goal c level → R x c → (k : ℕ) × (distance after x ≡ Some k) × (k ≤ level)
  closed_at c x a r = elim (news.all x (leads c x (l.back c a) r)) [
    | inl old ↦
        let n = l.numbered x old in
        (n.0, after_old x n.0 n.1, let h = l.low x n.0 n.1 in omega (arith, h))
    | inr new ↦ (level, given x new, omega arith)
  ]

  closed_after : (c j x : ℕ) → At after goal c j → j < suc level → R x c →
      (k : ℕ) × (distance after x ≡ Some k) × (k ≤ j)
  closed_after c j x a h r =
      let o : At numbers goal c j = at_old c j (omega (arith, h)) a in
      elim (cases_lt j level) [
        | inl less ↦ let k = l.closed c j x o less r in (k.0, after_old x k.0 k.1, k.2)
        | inr more ↦
            let e : j ≡ level = omega (arith, h, more) in
            let k = closed_at c x (subst (λ n. At numbers goal c n) e o) r in
            (k.0, k.1, let le = k.2 in omega (arith, e, le))
      ]

  back_after : (c : ℕ) → distance after c ≡ Some level → Contains found c
  back_after c e = elim (after_cases c level e) [
    | inl old ↦ absurd (let h = l.low c level old in omega (arith, h))
    | inr new ↦ new.1
  ]

  pub levels_step : Levels R after inner' found goal (suc level)
  levels_step = record {
    sound = sound_after;
    low = low_after;
    closed = closed_after;
    at_front = given;
    back = back_after;
    numbered = λ x m. elim (news.all x m) [
      | inl old ↦ (let n = l.numbered x old in (n.0, after_old x n.0 n.1))
      | inr new ↦ (level, given x new)
    ];
    marked = λ x k e. elim (after_cases x k e) [
      | inl old ↦ news.keeps x (l.marked x k old)
      | inr new ↦ news.marked x new.1
    ];
  }

module _ (R : ℕ → ℕ → Type 0) (numbers : List (Option ℕ)) (inner : List Bool) (goal level : ℕ)
    (l : Levels R numbers inner [] goal level) where
  at_below : (c j : ℕ) → j ≤ level → At numbers goal c j → j < level
  at_below c j h a = elim (cases_lt j level) [
    | inl less ↦ less
    | inr more ↦
        let e : j ≡ level = omega (arith, h, more) in
        absurd (none_in c (l.back c (subst (λ n. At numbers goal c n) e a)))
  ]

  least_at : (x : ℕ) (between : List ℕ) → Chain R x between goal →
      (k : ℕ) × (distance numbers x ≡ Some k) × (k ≤ length between)
  least_at x [] r = l.closed goal 0 x refl (at_below goal 0 (omega arith) refl) r
  least_at x (c ∷ between) h =
      let k = least_at c between h.1 in
      let low = l.low c k.0 k.1 in
      let less = at_below c (suc k.0) (omega (arith, low)) k.1 in
      let n = l.closed c (suc k.0) x k.1 less h.0 in
      (n.0, n.1, let a = n.2 in let b = k.2 in omega (arith, a, b))

  pub levels_end : AreDistances R goal numbers
  levels_end = record { sound = l.sound; least = λ x between h _. least_at x between h }

-- where the goal has its number, what is no further away has one
module _ (R : ℕ → ℕ → Type 0) (numbers : List (Option ℕ)) (inner : List Bool) (front : List ℕ) (goal level : ℕ)
    (l : Levels R numbers inner front goal level) (n : ℕ) (is : distance numbers goal ≡ Some n) where
  least_near : (x : ℕ) (between : List ℕ) → Chain R x between goal → length between ≤ n →
      (k : ℕ) × (distance numbers x ≡ Some k) × (k ≤ length between)
  least_near x [] r near = l.closed goal 0 x refl (let low = l.low goal n is in omega (arith, low)) r
  least_near x (c ∷ between) h near =
      let k = least_near c between h.1 (omega (arith, near)) in
      let low = l.low goal n is in
      let le = k.2 in
      let m = l.closed c (suc k.0) x k.1 (omega (arith, low, le, near)) h.0 in
      (m.0, m.1, let a = m.2 in omega (arith, a, le))

  pub levels_back : AreDistances R goal numbers
  levels_back = record { sound = l.sound; least = λ x between h near. least_near x between h (near n is) }

same_everywhere : {A : Type 0} (n x : ℕ) (a : A) → get_or (replicate n a) x a ≡ a
same_everywhere n x a = elim (cases_lt x n) [
  | inl less ↦ get_or-replicate n x a a less
  | inr more ↦ get_or_past (replicate n a) x a (subst (λ m. m ≤ x) (sym (length-replicate n a)) more)
]

pub unmarked : (n x : ℕ) → ¬ (Marked (replicate n false) x)
unmarked n x m = true≢false (sym m ∙ same_everywhere n x false)

pub levels_start : (R : ℕ → ℕ → Type 0) (n goal : ℕ) →
    Levels R (replicate n None) (replicate n false) (goal ∷ []) goal 0
levels_start R n goal = record {
  sound = λ x k e. absurd (none≢some (get_or (replicate n None) x None) k (same_everywhere n x None) e);
  low = λ x k e. absurd (none≢some (get_or (replicate n None) x None) k (same_everywhere n x None) e);
  closed = λ c j x a h. absurd (omega arith);
  at_front = λ c h. elim (Contains-push_cases [] goal c h) [
    | inl none ↦ absurd (none_in c none)
    | inr e ↦ sym e
  ];
  back = λ c a. subst (λ z. Contains (goal ∷ []) z) (sym a) (Contains-push [] goal);
  numbered = λ x m. absurd (unmarked n x m);
  marked = λ x k e. absurd (none≢some (get_or (replicate n None) x None) k (same_everywhere n x None) e);
}

-- nothing is visited at first
pub visited_start : (ways : Ways) (n : ℕ) → AreVisited ways (replicate n false) (replicate n false)
visited_start ways n = record {
  up = λ x y p m. absurd (unmarked n x m);
  across = λ x y p m. absurd (unmarked n x m);
  down = λ x y p m. absurd (unmarked n x m);
}

-- what a slice that was changed leaves in its `Vec`
take_front : {X : Type 0} (new rest : List X) → take (length new) (new ++ rest) ≡ new
take_front [] rest = refl
take_front (x ∷ new) rest = ap (λ xs. x ∷ xs) (take_front new rest)

pub written_back : {X : Type 0} (n : ℕ) (old new : List X) → length new ≡ n →
    take n (new ++ drop (length new) old) ≡ new
written_back n old new e = subst (λ m. take m (new ++ drop (length new) old) ≡ new) e
    (take_front new (drop (length new) old))

-- One turn: what is found from the front over the edges the other way round is the next front.
module _ (C E wc we : List (ℕ × ℕ)) (cs : wc ≡ C) (es : we ≡ map flip E) (numbers : List (Option ℕ))
    (inner inner0 inner' : List Bool) (front found : List ℕ) (goal level : ℕ)
    (l : Levels (Direct C E) numbers inner front goal level) (same : inner0 ≡ inner) (news : AreNew inner0 inner' found)
    (all : (s x : ℕ) → Contains front s → Direct wc we s x → Marked inner' x)
    (sound : (x : ℕ) → Contains found x → (s : ℕ) × Contains front s × Direct wc we s x) where
  turn_leads : (c x : ℕ) → Contains front c → Direct C E x c → Marked inner' x
  turn_leads c x h d = all c x h (subst₂ (λ a b. Direct a b c x) (sym cs) (sym es) (direct_flip C E x c d))

  turn_led : (x : ℕ) → Contains found x → (c : ℕ) × Contains front c × Direct C E x c
  turn_led x h =
      let s = sound x h in
      (s.0, s.1, direct_back C E x s.0 (subst₂ (λ a b. Direct a b s.0 x) cs es s.2))

  turn_news : AreNew inner inner' found
  turn_news = subst (λ m. AreNew m inner' found) same news

  pub levels_turn : (numbers' after : List (Option ℕ)) (found' : List ℕ) → numbers' ≡ numbers → found' ≡ found →
      ((x : ℕ) → Contains found' x → distance after x ≡ Some level) →
      ((x : ℕ) → ¬ (Contains found' x) → distance after x ≡ distance numbers' x) →
      Levels (Direct C E) after inner' found goal (level + 1)
  levels_turn numbers' after found' en ef given kept =
      subst (λ n. Levels (Direct C E) after inner' found goal n) (sym (add-one level))
      (levels_step (Direct C E) numbers after inner inner' front found goal level l turn_news turn_leads turn_led
      (λ x h. given x (subst (λ fs. Contains fs x) (sym ef) h))
      (λ x absent. kept x (λ h. absent (subst (λ fs. Contains fs x) ef h)) ∙ ap (λ ns. distance ns x) en))

  -- nothing more is found
  pub levels_last : found ≡ [] → AreDistances (Direct C E) goal numbers
  levels_last none = levels_end (Direct C E) numbers inner' goal (suc level)
      (subst (λ fs. Levels (Direct C E) numbers inner' fs goal (suc level)) none
      (levels_step (Direct C E) numbers numbers inner inner' front found goal level l turn_news turn_leads turn_led
      (λ x h. absurd (none_in x (subst (λ fs. Contains fs x) none h))) (λ x _. refl)))

  -- the goal has its number
  pub turn_room : (count : ℕ) → level + count_by not inner ≤ count → 0 < length found →
      (level + 1) + count_by not inner' ≤ count
  turn_room count room some = (let f = turn_news.fewer in omega (arith, f, room, some))

  pub turn_fewer : 0 < length found → count_by not inner' < count_by not inner
  turn_fewer some = (let f = turn_news.fewer in omega (arith, f, some))

  pub turn_within : (count : ℕ) → length inner ≡ count → (x : ℕ) → Contains found x → x < count
  turn_within count long x h =
      let n = marked_within inner' x (turn_news.marked x h) in
      let e = turn_news.long in
      omega (arith, n, e, long)

pub number_within : (numbers : List (Option ℕ)) (x k : ℕ) → distance numbers x ≡ Some k → x < length numbers
number_within numbers x k e = elim (cases_lt x (length numbers)) [
  | inl less ↦ less
  | inr more ↦ absurd (none≢some (distance numbers x) k (get_or_past numbers x None more) e)
]

-- one more that was found has the level
module _ (numbers after : List (Option ℕ)) (found : List ℕ) (i level : ℕ) (inside : i < length found)
    (here : get_or found i 0 < length after)
    (given : (x : ℕ) → Contains (take i found) x → distance after x ≡ Some level)
    (kept : (x : ℕ) → ¬ (Contains (take i found) x) → distance after x ≡ distance numbers x) where
  abbrev at : ℕ
  at = get_or found i 0

  more : (x : ℕ) → Contains (take i found) x → Contains (take (i + 1) found) x
  more x c = subst (λ l. Contains l x) (sym (take_more found i 0 inside)) (Contains-append_left (take i found) (at ∷
      []) x c)

  last : Contains (take (i + 1) found) at
  last = subst (λ l. Contains l at) (sym (take_more found i 0 inside)) (Contains-push (take i found) at)

  pub given_more : (x : ℕ) → Contains (take (i + 1) found) x → distance (set after at (Some level)) x ≡ Some level
  given_more x c = elim (eqb_tells x at) [
    | inl same ↦ subst (λ z. distance (set after at (Some level)) z ≡ Some level) (sym same.1)
        (get_or-set_same after at (Some level) None here)
    | inr other ↦ get_or-set_other after at x (Some level) None other.1 ∙
        given x (elim (Contains-push_cases (take i found) at x (subst (λ l. Contains l x) (take_more found i 0 inside)
        c)) [
          | inl old ↦ old
          | inr same ↦ absurd (other.1 (sym same))
        ])
  ]

  pub kept_more : (x : ℕ) → ¬ (Contains (take (i + 1) found) x) → distance (set after at (Some level)) x ≡ distance
      numbers x
  kept_more x absent = get_or-set_other after at x (Some level) None
      (λ same. absent (subst (λ z. Contains (take (i + 1) found) z) (sym same) last)) ∙ kept x (λ c. absent (more x c))
