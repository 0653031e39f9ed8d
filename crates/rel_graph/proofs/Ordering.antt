-- Listing what is ready, one after another.
use Rattle.std.proofs.Common.{◌≡◌, ◌⊎◌, ℕ, zero, suc, Bool, true, false, ◌||◌, ◌+◌, ◌<◌, ◌≤◌, List, [], ◌∷◌, ◌++◌, length, get_or, set, take, slice_index, eqb, Contains, inl, inr, refl, sym, subst, ap, ◌∙◌, arith, true≢false, length-append, replicate, count_by, cond, get_or-set_same}
use lib.ListN.{length-replicate, get_or-replicate}
use Rattle.std.proofs.lemmas.List.Sums.{sum_by-set}
use Rattle.std.proofs.lemmas.List.{take-append-le, get_or_append_left, get_or_push, take_all}
use Rattle.rel_graph.proofs.Marking.{marked_within, marked_set_other}
use Rattle.std.specs.List.{list_any, AllByRecursion}
use Rattle.std.specs.List.{IsDistinct}
use Rattle.std.proofs.lemmas.Bool.{cases_lt}
use Rattle.std.proofs.lemmas.Bool.Decides.{eqb_tells}
use Rattle.std.proofs.lemmas.List.{get_or_default}
use Rattle.std.proofs.lemmas.List.Elements.{Contains-push, Contains-push_cases, Contains-append_left}
use Rattle.std.proofs.lemmas.Map.Steps.{length-le_from_distinct_below}
use Rattle.rel_graph.specs.Chains.{Chain, Closure}
use Rattle.rel_graph.specs.Orders.{Ready, IsNext, IsOrder}
use Rattle.rel_graph.specs.Listing.{Listing, IsStuck}
use Rattle.rel_graph.specs.Marks.{Marked}
use Rattle.rel_graph.proofs.Chains.{closure_join}

or_false : (a b : Bool) → (a || b) ≡ false → (a ≡ false) × (b ≡ false)
or_false true b e = absurd (true≢false e)
or_false false b e = (refl, e)

none_equal : (y : ℕ) (xs : List ℕ) → list_any (eqb y) xs ≡ false → AllByRecursion (λ z. eqb y z ≡ false) xs
none_equal y [] e = tt
none_equal y (x ∷ xs) e = let h = or_false (eqb y x) (list_any (eqb y) xs) e in (h.0, none_equal y xs h.1)

any_cases : (y x : ℕ) (xs : List ℕ) → list_any (eqb y) (x ∷ xs) ≡ true → (y ≡ x) ⊎ (list_any (eqb y) xs ≡ true)
any_cases y x xs e = elim (eqb_tells y x) [
  | inl same ↦ inl same.1
  | inr other ↦ inr (subst (λ b. (b || list_any (eqb y) xs) ≡ true) other.0 e)
]

bool_cases : (b : Bool) → (b ≡ true) ⊎ (b ≡ false)
bool_cases true = inl refl
bool_cases false = inr refl

-- Where R has no cycle below n, there is no set of numbers below n, each with another one before it: go back from one
-- to the next, and one comes again.
module _ (R : ℕ → ℕ → Type 0) (n : ℕ) (P : ℕ → Type 0) (acyclic : (q : ℕ) → ¬ (Closure R q q)) (below : (x : ℕ) →
    P x → x < n)
    (back : (x : ℕ) → P x → ¬ ((y : ℕ) → P y → ¬ (R y x))) where
  pub record Trail (head : ℕ) (tail : List ℕ) : Type 0 where
    pub distinct : IsDistinct eqb (head ∷ tail)
    pub within : (q : ℕ) → list_any (eqb q) (head ∷ tail) ≡ true → q < n
    pub leads : (q : ℕ) → list_any (eqb q) tail ≡ true → Closure R head q

  from_head : (head : ℕ) (tail : List ℕ) → Trail head tail → (y q : ℕ) → R y head →
      list_any (eqb q) (head ∷ tail) ≡ true → Closure R y q
  from_head head tail t y q r e = elim (any_cases q head tail e) [
    | inl same ↦ ([], subst (λ z. R y z) (sym same) r)
    | inr later ↦ closure_join R y head q ([], r) (t.leads q later)
  ]

  longer : (head : ℕ) (tail : List ℕ) → Trail head tail → (y : ℕ) → P y → R y head →
      list_any (eqb y) (head ∷ tail) ≡ false → Trail y (head ∷ tail)
  unfolding IsDistinct
  longer head tail t y p r new = record {
    distinct = (none_equal y (head ∷ tail) new, t.distinct);
    within = λ q e. elim (any_cases q y (head ∷ tail) e) [
      | inl same ↦ subst (λ z. z < n) (sym same) (below y p)
      | inr later ↦ t.within q later
    ];
    leads = λ q e. from_head head tail t y q r e;
  }

  walk : (left head : ℕ) (tail : List ℕ) → Trail head tail → P head → n < left + length (head ∷ tail) → ⊥
  walk zero head tail t p room =
      let h = length-le_from_distinct_below (head ∷ tail) n t.distinct t.within in
      absurd (omega (arith, h, room))
  walk (suc left) head tail t p room = back head p (λ y py r. elim (bool_cases (list_any (eqb y) (head ∷ tail))) [
    | inl again ↦ acyclic y (from_head head tail t y y r again)
    | inr new ↦ walk left y (head ∷ tail) (longer head tail t y py r new) py (omega (arith, room))
  ])

  pub no_trail : (x : ℕ) → ¬ (P x)
  unfolding IsDistinct
  no_trail x p = walk n x [] (record {
    distinct = (tt, tt);
    within = λ q e. elim (any_cases q x [] e) [
      | inl same ↦ subst (λ z. z < n) (sym same) (below x p)
      | inr later ↦ absurd (true≢false (sym later))
    ];
    leads = λ q e. absurd (true≢false (sym e));
  }) p (omega arith)

chain_closed : (R : ℕ → ℕ → Type 0) (order : List ℕ) → ((x y : ℕ) → Contains order x → R y x → Contains order y) →
    (x y : ℕ) (between : List ℕ) →
    ((z : ℕ) → R z x → Contains order z) → Chain R y between x → Contains order y
chain_closed R order closed x y [] direct h = direct y h
chain_closed R order closed x y (c ∷ between) direct h =
    closed c y (chain_closed R order closed x c between direct h.1) h.0

pub ready_from : (R : ℕ → ℕ → Type 0) (order : List ℕ) → ((x y : ℕ) → Contains order x → R y x → Contains order y) →
    (x : ℕ) →
    ((z : ℕ) → R z x → Contains order z) → Ready R order x
ready_from R order closed x direct y h = chain_closed R order closed x y h.0 direct h.1

-- an order has all but itself before each
pub order_acyclic : (R : ℕ → ℕ → Type 0) (count : ℕ) (order : List ℕ) → IsOrder R count order → (r : ℕ) → r < count →
    ¬ (Closure R r r)
order_acyclic R count order o r within h =
    let p = o.all r within in
    let n = o.each p.0 p.1 in
    let e : slice_index order p.0 ≡ r = get_or_default order p.0 0 r p.1 ∙ p.2 in
    n.unlisted (n.ready (slice_index order p.0) (subst (λ z. Closure R z z) (sym e) h))

-- Nothing is listed at first.
pub listing_start : (R : ℕ → ℕ → Type 0) (count : ℕ) → Listing R count (replicate count true) []
listing_start R count = record {
  within = λ x m. subst (λ n. x < n) (length-replicate count true) (marked_within (replicate count true) x m);
  apart = λ x m c. absurd (let h = c.1 in omega (arith, h));
  all = λ x h. inl (get_or-replicate count x true false h);
  closed = λ x y c r. absurd (let h = c.1 in omega (arith, h));
  each = λ k h. absurd (omega arith);
}

module _ (R : ℕ → ℕ → Type 0) (count : ℕ) (left : List Bool) (order : List ℕ) (l : Listing R count left order) (x : ℕ)
    (m : Marked left x)
    (direct : (y : ℕ) → R y x → Contains order y) (least : (y : ℕ) → Marked left y → Ready R order y → x ≤ y) where
  next : IsNext R count order x
  next = record {
    below = l.within x m;
    unlisted = l.apart x m;
    ready = ready_from R order l.closed x direct;
    least = λ y h u r. elim (l.all y h) [
      | inl k ↦ least y k r
      | inr k ↦ absurd (u k)
    ];
  }

  each_more : (k : ℕ) → k < length (order ++ x ∷ []) →
      IsNext R count (take k (order ++ x ∷ [])) (slice_index (order ++ x ∷ []) k)
  each_more k h = elim (cases_lt k (length order)) [
    | inl less ↦
        subst (λ t. IsNext R count t (slice_index (order ++ x ∷ []) k))
        (sym (take-append-le k order (x ∷ []) (omega arith)))
        (subst (λ y. IsNext R count (take k order) y) (sym (get_or_append_left order (x ∷ []) 0 k less))
        (l.each k less))
    | inr more ↦
        let e : length order ≡ k = (let n = length-append order (x ∷ []) in omega (arith, n, h, more)) in
        let front : take k (order ++ x ∷ []) ≡ order = take-append-le k order (x ∷ []) (omega (arith, e)) ∙
        take_all k order (omega (arith, e)) in
        subst (λ t. IsNext R count t (slice_index (order ++ x ∷ []) k)) (sym front)
        (subst (λ y. IsNext R count order y) (sym (get_or_push order x 0 k e)) next)
  ]

  gone : (y : ℕ) → x ≡ y → ¬ (Marked (set left x false) y)
  gone y same k = true≢false (sym (subst (λ z. Marked (set left x false) z) (sym same) k) ∙
      get_or-set_same left x false false (marked_within left x m))

  unset : (y : ℕ) → Marked (set left x false) y → Marked left y
  unset y k = elim (eqb_tells y x) [
    | inl same ↦ absurd (gone y (sym same.1) k)
    | inr other ↦ sym (marked_set_other left x y false other.1) ∙ k
  ]

  -- the next one is listed
  pub listing_more : Listing R count (set left x false) (order ++ x ∷ [])
  listing_more = record {
    within = λ y k. l.within y (unset y k);
    apart = λ y k c. elim (Contains-push_cases order x y c) [
      | inl old ↦ l.apart y (unset y k) old
      | inr same ↦ gone y same k
    ];
    all = λ y h. elim (eqb_tells y x) [
      | inl same ↦ inr (subst (λ z. Contains (order ++ x ∷ []) z) (sym same.1) (Contains-push order x))
      | inr other ↦ elim (l.all y h) [
        | inl k ↦ inl (marked_set_other left x y false other.1 ∙ k)
        | inr c ↦ inr (Contains-append_left order (x ∷ []) y c)
      ]
    ];
    closed = λ y z c r. Contains-append_left order (x ∷ []) z (elim (Contains-push_cases order x y c) [
      | inl old ↦ l.closed y z old r
      | inr same ↦ direct z (subst (λ w. R z w) (sym same) r)
    ]);
    each = each_more;
  }

-- Where the order is stuck, all is listed unless there is a cycle.
pub listed_all : (R : ℕ → ℕ → Type 0) (count : ℕ) (left : List Bool) (order : List ℕ) → Listing R count left order →
    IsStuck R left →
    ((q : ℕ) → ¬ (Closure R q q)) → (x : ℕ) → ¬ (Marked left x)
listed_all R count left order l stuck acyclic = no_trail R count (λ x. Marked left x) acyclic l.within stuck

pub order_from : (R : ℕ → ℕ → Type 0) (count : ℕ) (left : List Bool) (order : List ℕ) → Listing R count left order →
    ((x : ℕ) → ¬ (Marked left x)) →
    IsOrder R count order
order_from R count left order l none = record {
  each = l.each;
  all = λ x h. elim (l.all x h) [
    | inl k ↦ absurd (none x k)
    | inr c ↦ c
  ];
}

-- one mark less
pub fewer_left : (left : List Bool) (x : ℕ) → Marked left x →
    count_by (λ b. b) (set left x false) < count_by (λ b. b) left
fewer_left left x m =
    let e = sum_by-set (λ b. cond b 1 0) left x false false (marked_within left x m) in
    let was : ◌≡◌ {A = ℕ} (cond (get_or left x false) 1 0) 1 = ap (λ b. cond b 1 0) m in
    omega (arith, e, was)

-- What stands before a ready one is listed, so nothing that is left stands directly before it.
pub ready_free : (R : ℕ → ℕ → Type 0) (count : ℕ) (left : List Bool) (order : List ℕ) → Listing R count left order →
    (y z : ℕ) → Ready R order y →
    Marked left z → ¬ (R z y)
ready_free R count left order l y z ready m r = l.apart z m (ready z ([], r))

pub free_listed : (R : ℕ → ℕ → Type 0) (count : ℕ) (left : List Bool) (order : List ℕ) → Listing R count left order →
    (x : ℕ) →
    ((y : ℕ) → R y x → y < count) → ((y : ℕ) → Marked left y → ¬ (R y x)) → (y : ℕ) → R y x → Contains order y
free_listed R count left order l x within free y r = elim (l.all y (within y r)) [
  | inl m ↦ absurd (free y m r)
  | inr c ↦ c
]
