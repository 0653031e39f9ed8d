-- From steps to the order: of what is left, that is ready which has nothing left before it.
use Rattle.std.proofs.Common.{◌≡◌, ◌≢◌, ◌⊎◌, cond, arith, ap, ℕ, ◌<◌, ◌≤◌, Bool, true, false, List, [], ◌∷◌, ◌++◌, length, set, get_or, slice_index, replicate, Contains, inl, inr, refl, sym, subst, true≢false, ◌∙◌, get_or-set_same}
use Rattle.std.specs.Prelude.{nat_eq}
use Rattle.std.specs.List.{All, AllByRecursion}
use Rattle.std.specs.Ordering.{nat_cmp}
use Rattle.std.specs.BTreeMap.Range.{IsLtBy}
use Rattle.std.proofs.lemmas.Bool.{cases_lt}
use Rattle.std.proofs.lemmas.Bool.Decides.{eqb_tells}
use lib.ListN.{length-replicate, get_or-replicate, get_or-eq_default}
use Rattle.std.proofs.lemmas.List.{get_or_default}
use Rattle.std.proofs.lemmas.List.Elements.{All-contains, All-from_recursion, recursion_from_All}
use Rattle.rel_graph.specs.Before.{Belongs, Direct}
use Rattle.rel_graph.specs.Chains.{Paired, Chain, Closure}
use Rattle.rel_graph.specs.Cycles.{HasNoCycle}
use Rattle.rel_graph.specs.Listing.{Listing, IsStuck}
use Rattle.rel_graph.specs.Marks.{Marked}
use Rattle.rel_graph.specs.Pairs.{AllBelow}
use Rattle.rel_graph.specs.Releases.{targets, waiting, Released}
use Rattle.rel_graph.specs.Steps.{begin_of, listing_of, end_of, IsListing, AreArrows, Pending, AreCounted, AreReady, AreLeft}
use Rattle.rel_graph.proofs.Below.{direct_below, paired_below}
use Rattle.rel_graph.proofs.Chains.{closure_join, belongs_out, belongs_more, belongs_carries}
use Rattle.rel_graph.proofs.Marking.{marked_within, marked_set_here, marked_set_keeps, marked_set_other}
use Rattle.rel_graph.proofs.Ordering.{no_trail, listing_more, free_listed, ready_free}
use Rattle.rel_graph.proofs.ReleaseLemmas.{waiting_unmarked}
use Rattle.rel_graph.proofs.StepLemmas.{first_below, first_or_rest, first_within, first_counted, rest_is_ready}

-- Nothing begins or ends too early, and what may begin or end does. A resource may begin once its containers have begun
-- and what edges lead from to it has ended; it may end once it is listed and what it contains has ended.
pub record Settled (containers edges : List (ℕ × ℕ)) (count : ℕ) (begun ended : ℕ → Type 0) (left : List Bool) : Type
    0 where
  pub begun_or_not : (x : ℕ) → begun x ⊎ ¬ (begun x)
  pub ended_or_not : (x : ℕ) → ended x ⊎ ¬ (ended x)
  pub container_begun : (c m : ℕ) → Paired containers c m → begun m → begun c
  pub earlier_ended : (a b : ℕ) → Paired edges a b → begun b → ended a
  pub member_ended : (c m : ℕ) → Paired containers c m → ended c → ended m
  pub listed : (x : ℕ) → ended x → ¬ (Marked left x)
  pub begins : (x : ℕ) → x < count → ((c : ℕ) → Paired containers c x → begun c) →
      ((a : ℕ) → Paired edges a x → ended a) → begun x
  pub ends : (x : ℕ) → x < count → ¬ (Marked left x) → ((m : ℕ) → Paired containers x m → ended m) → ended x

-- the pairs the other way round have no cycle either
chain_turned : (pairs : List (ℕ × ℕ)) (a b : ℕ) (between : List ℕ) → Chain (λ y x. Paired pairs x y) a between b →
    Closure (Paired pairs) b a
chain_turned pairs a b [] h = ([], h)
chain_turned pairs a b (x ∷ between) h =
    closure_join (Paired pairs) b x a (chain_turned pairs x b between h.1) ([], h.0)

module _ (containers edges : List (ℕ × ℕ)) (count : ℕ) (begun ended : ℕ → Type 0) (left : List Bool)
    (s : Settled containers edges count begun ended left) where
  -- where a container has begun so have those around it; where it has ended so has all inside it
  begun_chain : (a b : ℕ) (between : List ℕ) → Chain (Paired containers) a between b → begun b → begun a
  begun_chain a b [] p m = s.container_begun a b p m
  begun_chain a b (y ∷ between) p m = s.container_begun a y p.0 (begun_chain y b between p.1 m)

  begun_around : (x c : ℕ) → Belongs containers x c → begun x → begun c
  begun_around x c (inl e) h = subst (λ y. begun y) (sym e) h
  begun_around x c (inr k) h = begun_chain c x k.0 k.1 h

  ended_inside : (x c : ℕ) → Belongs containers x c → ended c → ended x
  ended_inside x c b h = belongs_carries containers (λ y. ended y) s.member_ended x c b h

  -- of what has begun, all that stands directly before it is listed
  begun_free : (x y : ℕ) → begun x → Direct containers edges y x → ¬ (Marked left y)
  begun_free x y h d = s.listed y (ended_inside y d.earlier d.source
      (s.earlier_ended d.earlier d.later d.edge (begun_around x d.later d.target h)))

  module _ (below : AllBelow containers count) (edges_below : AllBelow edges count)
      (acyclic : HasNoCycle (Paired containers)) where
    -- what has not ended has something left in it, itself or what it contains
    record Unended (a : ℕ) : Type 0 where
      not_ended : ¬ (ended a)
      none : (y : ℕ) → Belongs containers y a → ¬ (Marked left y)
      within : a < count

    ended_none : (a : ℕ) → ¬ (Unended a)
    ended_none = no_trail (λ m c. Paired containers c m) count Unended
        (λ q h. acyclic q (chain_turned containers q q h.0 h.1)) (λ a u. u.within)
        (λ a u further. u.not_ended (s.ends a u.within (u.none a (inl refl)) (λ m p. elim (s.ended_or_not m) [
          | inl h ↦ h
          | inr no_h ↦ absurd (further m (record {
            not_ended = no_h;
            none = λ y b. u.none y (belongs_out containers y m a p b);
            within = (paired_below containers count a m below p).1;
          }) p)
        ])))

    -- what has not begun has something left directly before it
    record Unbegun (x : ℕ) : Type 0 where
      not_begun : ¬ (begun x)
      none : (y : ℕ) → Marked left y → ¬ (Direct containers edges y x)
      within : x < count

    deeper : (c x y : ℕ) → Paired containers c x → Direct containers edges y c → Direct containers edges y x
    deeper c x y p d = record {
      earlier = d.earlier;
      later = d.later;
      edge = d.edge;
      source = d.source;
      target = belongs_more containers c x d.later d.target p;
    }

    begun_none : (x : ℕ) → ¬ (Unbegun x)
    begun_none = no_trail (Paired containers) count Unbegun acyclic (λ x u. u.within)
        (λ x u further. u.not_begun (s.begins x u.within
        (λ c p. elim (s.begun_or_not c) [
          | inl h ↦ h
          | inr no_h ↦ absurd (further c (record {
            not_begun = no_h;
            none = λ y m d. u.none y m (deeper c x y p d);
            within = (paired_below containers count c x below p).0;
          }) p)
        ])
        (λ a p. elim (s.ended_or_not a) [
          | inl h ↦ h
          | inr no_h ↦ absurd (ended_none a (record {
            not_ended = no_h;
            none = λ y b m. u.none y m (record { earlier = a; later = x; edge = p; source = b; target = inl refl });
            within = (paired_below edges count a x edges_below p).0;
          }))
        ])))

    -- where nothing that is left has begun, the order is stuck
    settled_stuck : ((x : ℕ) → Marked left x → x < count) → ((x : ℕ) → Marked left x → ¬ (begun x)) →
        IsStuck (Direct containers edges) left
    settled_stuck within none x m free = begun_none x (record {
      not_begun = none x m;
      none = free;
      within = within x m;
    })

    -- the least of what is left and has begun is the next one
    settled_next : (order : List ℕ) → Listing (Direct containers edges) count left order → (x : ℕ) → Marked left x →
        begun x → ((y : ℕ) → Marked left y → begun y → x ≤ y) →
        Listing (Direct containers edges) count (set left x false) (order ++ x ∷ [])
    settled_next order l x m b least =
        listing_more (Direct containers edges) count left order l x m
        (free_listed (Direct containers edges) count left order l x
        (λ y r. direct_below containers edges count y x below edges_below r) (λ y k r. begun_free x y b r k))
        (λ y k ready. elim (s.begun_or_not y) [
          | inl h ↦ least y k h
          | inr no_h ↦ absurd (begun_none y (record {
            not_begun = no_h;
            none = λ z left_z r. ready_free (Direct containers edges) count left order l y z ready left_z r;
            within = l.within y k;
          }))
        ])

-- ---- counts of nothing

marked_cases : (marks : List Bool) (x : ℕ) → Marked marks x ⊎ ¬ (Marked marks x)
marked_cases marks x = elim (get_or marks x false) as (λ b. (b ≡ true) ⊎ ¬ (b ≡ true)) [
  | true ↦ inl refl
  | false ↦ inr (λ e. true≢false (sym e))
]

marked_by : (b : Bool) → ◌≡◌ {A = ℕ} (cond b 0 1) 0 → b ≡ true
marked_by true e = refl
marked_by false e = absurd (let n : ◌≡◌ {A = ℕ} 1 0 = e in omega (arith, n))

abbrev one_waiting : List Bool → ℕ × ℕ → ℕ → ℕ
one_waiting done a v = cond (nat_eq v a.1) (cond (get_or done a.0 false) 0 1) 0

done_all : (done : List Bool) (arrows : List (ℕ × ℕ)) (v : ℕ) → waiting done arrows v ≡ 0 →
    AllByRecursion (λ a. v ≡ a.1 → Marked done a.0) arrows
done_all done [] v e = tt
done_all done (a ∷ arrows) v e =
    let here : one_waiting done a v ≡ 0 = omega (arith, e) in
    let rest : waiting done arrows v ≡ 0 = omega (arith, e) in (
      (λ same. elim (eqb_tells v a.1) [
        | inl t ↦ marked_by (get_or done a.0 false)
            (sym (ap (λ (b : Bool). cond {A = ℕ} b (cond (get_or done a.0 false) 0 1) 0) t.0) ∙ here)
        | inr f ↦ absurd (f.1 same)
      ]),
      done_all done arrows v rest,
    )

none_waiting : (done : List Bool) (arrows : List (ℕ × ℕ)) (v : ℕ) →
    AllByRecursion (λ a. v ≡ a.1 → Marked done a.0) arrows → waiting done arrows v ≡ 0
none_waiting done [] v h = refl
none_waiting done (a ∷ arrows) v h =
    let rest = none_waiting done arrows v h.1 in
    elim (eqb_tells v a.1) [
      | inl t ↦
          let here : one_waiting done a v ≡ 0 =
          ap (λ (b : Bool). cond {A = ℕ} b (cond (get_or done a.0 false) 0 1) 0) t.0 ∙
          ap (λ (b : Bool). cond {A = ℕ} b 0 1) (h.0 t.1) in
          omega (arith, here, rest)
      | inr f ↦
          let here : one_waiting done a v ≡ 0 =
          ap (λ (b : Bool). cond {A = ℕ} b (cond (get_or done a.0 false) 0 1) 0) f.0 in
          omega (arith, here, rest)
    ]

-- where nothing is waited for, all that arrows come from is done, and the other way round
waiting_none : (done : List Bool) (arrows : List (ℕ × ℕ)) (u v : ℕ) → waiting done arrows v ≡ 0 → Paired arrows u v →
    Marked done u
waiting_none done arrows u v e p =
    All-contains (λ a. v ≡ a.1 → Marked done a.0) arrows (u, v)
    (All-from_recursion (λ a. v ≡ a.1 → Marked done a.0) arrows (done_all done arrows v e)) p refl

none_waits : (done : List Bool) (arrows : List (ℕ × ℕ)) (v : ℕ) → ((u : ℕ) → Paired arrows u v → Marked done u) →
    waiting done arrows v ≡ 0
none_waits done arrows v h = none_waiting done arrows v
    (recursion_from_All (λ a. v ≡ a.1 → Marked done a.0) arrows (λ k d within same.
    h (get_or arrows k d).0 (
      k,
      within,
      get_or_default arrows k ((get_or arrows k d).0, v) d within ∙
          ap (λ y. ((get_or arrows k d).0, y)) (sym same),
    )))

-- ---- steps

none_pending : (v : ℕ) → ¬ (Contains [] v)
none_pending v c = absurd (let h = c.1 in omega (arith, h))

module _ (C E arrows : List (ℕ × ℕ)) (count steps : ℕ) (whole : steps ≡ begin_of count)
    (below : AllBelow C count) (edges_below : AllBelow E count) (a : AreArrows C E count arrows)
    (done left : List Bool) (waits ready : List ℕ) (k : AreCounted arrows steps done waits (Pending [] ready))
    (r : AreReady done ready) (l : AreLeft count done left) where
  -- what is done or ready has all done that leads to it
  before_done : (u v : ℕ) → v < steps → slice_index waits v ≡ 0 → Paired arrows u v → Marked done u
  before_done u v h z p = waiting_none done arrows u v (sym (k.counted v h) ∙ z) p

  done_before : (u v : ℕ) → v < steps → Marked done v → Paired arrows u v → Marked done u
  done_before u v h m p = before_done u v h (k.none v m) p

  done_next : (v : ℕ) → v < steps → ((u : ℕ) → Paired arrows u v → Marked done u) → Marked done v ⊎ Contains ready v
  done_next v h f = elim (k.all v h (k.counted v h ∙ none_waits done arrows v f)) [
    | inl m ↦ inl m
    | inr (inl none) ↦ absurd (none_pending v none)
    | inr (inr q) ↦ inr q
  ]

  step_within : (v : ℕ) → Marked done v → v < steps
  step_within v m = let n = marked_within done v m in let e = k.marks in omega (arith, n, e)

  begin_done : (x : ℕ) → x < count → ((u : ℕ) → Paired arrows u (begin_of x) → Marked done u) → Marked done (begin_of x)
  begin_done x h f = elim (done_next (begin_of x) (omega (arith, h, whole)) f) [
    | inl m ↦ m
    | inr q ↦ absurd (let p = r.listings (begin_of x) q in let e = p.1 in omega (arith, e))
  ]

  end_done : (x : ℕ) → x < count → ((u : ℕ) → Paired arrows u (end_of x) → Marked done u) → Marked done (end_of x)
  end_done x h f = elim (done_next (end_of x) (omega (arith, h, whole)) f) [
    | inl m ↦ m
    | inr q ↦ absurd (let p = r.listings (end_of x) q in let e = p.1 in omega (arith, e))
  ]

  settled : Settled C E count (λ x. Marked done (begin_of x)) (λ x. Marked done (end_of x)) left
  settled = record {
    begun_or_not = λ x. marked_cases done (begin_of x);
    ended_or_not = λ x. marked_cases done (end_of x);
    container_begun = λ c m p d. done_before (begin_of c) (begin_of m) (step_within (begin_of m) d) d (a.down c m p);
    earlier_ended = λ x y p d. done_before (end_of x) (begin_of y) (step_within (begin_of y) d) d (a.across x y p);
    member_ended = λ c m p d. done_before (end_of m) (end_of c) (step_within (end_of c) d) d (a.up c m p);
    listed = λ x d m.
        let n = step_within (end_of x) d in
        let within : x < count = omega (arith, n, whole) in
        true≢false (sym (done_before (listing_of x) (end_of x) n d (a.listed x within)) ∙ l.unlisted x m);
    begins = λ x h cs es. begin_done x h (λ u p. elim (a.to_begin u x p) [
      | inl q ↦ subst (λ y. Marked done y) (sym q.1) (cs q.0 q.2)
      | inr q ↦ subst (λ y. Marked done y) (sym q.1) (es q.0 q.2)
    ]);
    ends = λ x h gone ms. end_done x h (λ u p. elim (a.to_end u x p) [
      | inl q ↦ subst (λ y. Marked done y) (sym q.0) (elim (l.others x h) [
        | inl m ↦ absurd (gone m)
        | inr d ↦ d
      ])
      | inr q ↦ subst (λ y. Marked done y) (sym q.1) (ms q.0 q.2)
    ]);
  }

  -- what is ready is left and has begun, and the other way round
  ready_left : (x : ℕ) → Contains ready (listing_of x) → Marked left x
  ready_left x c =
      let h = k.sound (listing_of x) (inr c) in
      let n = h.0 in
      elim (l.others x (omega (arith, n, whole))) [
        | inl m ↦ m
        | inr d ↦ absurd (true≢false (sym d ∙ r.undone (listing_of x) c))
      ]

  ready_begun : (x : ℕ) → Contains ready (listing_of x) → Marked done (begin_of x)
  ready_begun x c =
      let h = k.sound (listing_of x) (inr c) in
      let n = h.0 in
      before_done (begin_of x) (listing_of x) n h.1 (a.begun x (omega (arith, n, whole)))

  begun_ready : (x : ℕ) → Marked left x → Marked done (begin_of x) → Contains ready (listing_of x)
  begun_ready x m d =
      let h = l.within x m in
      elim (done_next (listing_of x) (omega (arith, h, whole))
      (λ u p. subst (λ y. Marked done y) (sym (a.to_listing u x p).0) d)) [
        | inl listed ↦ absurd (true≢false (sym listed ∙ l.unlisted x m))
        | inr q ↦ q
      ]

  module _ (acyclic : HasNoCycle (Paired C)) where
    -- where nothing is ready, the order is stuck
    pub steps_stuck : ready ≡ [] → IsStuck (Direct C E) left
    steps_stuck none = settled_stuck C E count (λ x. Marked done (begin_of x)) (λ x. Marked done (end_of x)) left
        settled below edges_below acyclic l.within
        (λ x m d. none_pending (listing_of x) (subst (λ q. Contains q (listing_of x)) none (begun_ready x m d)))

    -- the first of what is ready is the next one
    pub steps_next : (order rest : List ℕ) (step x : ℕ) → Listing (Direct C E) count left order → ready ≡ step ∷ rest →
        All (IsLtBy nat_cmp step) rest → step ≡ listing_of x →
        Listing (Direct C E) count (set left x false) (order ++ x ∷ [])
    steps_next order rest step x listing is above e =
        let first : Contains ready (listing_of x) = subst (λ y. Contains ready y) e
        (subst (λ q. Contains q step) (sym is) (0, omega arith, refl)) in
        settled_next C E count (λ x. Marked done (begin_of x)) (λ x. Marked done (end_of x)) left
        settled below edges_below acyclic order listing x (ready_left x first) (ready_begun x first)
        (λ y m d. elim (first_or_rest step rest (listing_of y)
        (subst (λ q. Contains q (listing_of y)) is (begun_ready y m d))) [
          | inl same ↦ omega (arith, same, e)
          | inr later ↦ (let less = first_below step (listing_of y) rest above later in omega (arith, less, e))
        ])

  pub next_left : (x : ℕ) (rest : List ℕ) → ready ≡ listing_of x ∷ rest → Marked left x
  next_left x rest is = ready_left x (subst (λ q. Contains q (listing_of x)) (sym is) (0, omega arith, refl))

-- ---- what is left

module _ (left : List Bool) (x : ℕ) (m : Marked left x) where
  left_apart : (y : ℕ) → Marked (set left x false) y → y ≢ x
  left_apart y k same = true≢false (sym (subst (λ z. Marked (set left x false) z) same k) ∙
      get_or-set_same left x false false (marked_within left x m))

  left_before : (y : ℕ) → Marked (set left x false) y → Marked left y
  left_before y k = sym (marked_set_other left x y false (left_apart y k)) ∙ k

  -- a resource that was left is listed
  pub left_more : (count : ℕ) (done : List Bool) → AreLeft count done left → listing_of x < length done →
      AreLeft count (set done (listing_of x) true) (set left x false)
  left_more count done l inside = record {
    within = λ y k. l.within y (left_before y k);
    unlisted = λ y k. marked_set_other done (listing_of x) (listing_of y) true
        (λ same. left_apart y k (omega (arith, same))) ∙ l.unlisted y (left_before y k);
    others = λ y h. elim (eqb_tells y x) [
      | inl same ↦ inr (subst (λ z. Marked (set done (listing_of x) true) (listing_of z)) (sym same.1)
          (marked_set_here done (listing_of x) inside))
      | inr other ↦ elim (l.others y h) [
        | inl k ↦ inl (marked_set_other left x y false other.1 ∙ k)
        | inr d ↦ inr (marked_set_keeps done (listing_of x) (listing_of y) inside d)
      ]
    ];
  }

-- doing other steps lists nothing
pub left_same : (count : ℕ) (done after left : List Bool) → AreLeft count done left →
    ((v : ℕ) → IsListing v → get_or after v false ≡ get_or done v false) → AreLeft count after left
left_same count done after left l same = record {
  within = l.within;
  unlisted = λ x m. same (listing_of x) (x, refl) ∙ l.unlisted x m;
  others = λ x h. elim (l.others x h) [
    | inl m ↦ inl m
    | inr d ↦ inr (same (listing_of x) (x, refl) ∙ d)
  ];
}

-- ---- one turn

module _ (arrows : List (ℕ × ℕ)) (steps : ℕ) (done done' after : List Bool) (waits waits' next ready rest free' free :
    List ℕ)
    (step : ℕ) (is : ready ≡ step ∷ rest) (s : AreCounted arrows steps done waits (Pending [] ready))
    (r : AreReady done ready) (same : done' ≡ done) (finished : after ≡ set done' step true) where
  after_is : after ≡ set done step true
  after_is = finished ∙ ap (λ d. set d step true) same

  pub turn_counted : waits' ≡ waits → free' ≡ [] → Released (targets arrows step) waits' next free' free →
      AreCounted arrows steps after next (Pending free rest)
  turn_counted e none f = subst (λ d. AreCounted arrows steps d next (Pending free rest)) (sym after_is)
      (first_counted arrows steps done waits ready rest step is s r next free
      (subst (λ l. Released (targets arrows step) waits next l free) none
      (subst (λ w. Released (targets arrows step) w next free' free) e f)))

  pub turn_ready : All (IsLtBy nat_cmp step) rest → AreReady after rest
  turn_ready above = subst (λ d. AreReady d rest) (sym after_is)
      (rest_is_ready arrows steps done waits ready rest step is s r above)

  pub turn_left : (count x : ℕ) (left : List Bool) → AreLeft count done left → Marked left x → step ≡ listing_of x →
      AreLeft count after (set left x false)
  turn_left count x left l m e = subst (λ d. AreLeft count d (set left x false)) (sym after_is)
      (subst (λ v. AreLeft count (set done v true) (set left x false)) (sym e)
      (left_more left x m count done l
      (let n = first_within arrows steps done waits ready rest step is s r in let w = s.marks in
      omega (arith, n, w, e))))

pub nothing_left : (xs : List ℕ) → (0 < length xs → ⊥) → xs ≡ []
nothing_left [] h = refl
nothing_left (x ∷ xs) h = absurd (h (omega arith))

-- ---- at first

module _ (arrows : List (ℕ × ℕ)) (steps : ℕ) (waits free : List ℕ) (long : length waits ≡ steps)
    (counted : (x : ℕ) → x < steps → slice_index waits x ≡ waiting [] arrows x)
    (sound : (v : ℕ) → Contains free v → (v < length waits) × (slice_index waits v ≡ 0))
    (all : (v : ℕ) → v < length waits → slice_index waits v ≡ 0 → Contains free v) where
  none_done : (u : ℕ) → get_or (replicate steps false) u false ≡ false
  none_done u = elim (cases_lt u steps) [
    | inl less ↦ get_or-replicate steps u false false less
    | inr more ↦ get_or-eq_default (replicate steps false) false
        (let e = length-replicate steps false in omega (arith, e, more))
  ]

  pub counted_start : AreCounted arrows steps (replicate steps false) waits (Pending free [])
  counted_start = record {
    marks = length-replicate steps false;
    counts = long;
    counted = λ v h. counted v h ∙ waiting_unmarked (replicate steps false) arrows v none_done;
    none = λ v m. absurd (true≢false (sym m ∙ none_done v));
    sound = λ v p. elim p [
      | inl f ↦ (let h = sound v f in let n = h.0 in (omega (arith, n, long), h.1))
      | inr none ↦ absurd (none_pending v none)
    ];
    all = λ v h z. inr (inl (all v (omega (arith, h, long)) z));
  }

pub ready_start : (done : List Bool) → AreReady done []
ready_start done = record {
  listings = λ v c. absurd (none_pending v c);
  undone = λ v c. absurd (none_pending v c);
}

pub left_start : (count steps : ℕ) → AreLeft count (replicate steps false) (replicate count true)
left_start count steps = record {
  within = λ x m. (let n = marked_within (replicate count true) x m in let e = length-replicate count true in
      omega (arith, n, e));
  unlisted = λ x _. elim (cases_lt (listing_of x) steps) [
    | inl less ↦ get_or-replicate steps (listing_of x) false false less
    | inr more ↦ get_or-eq_default (replicate steps false) false
        (let e = length-replicate steps false in omega (arith, e, more))
  ];
  others = λ x h. inl (get_or-replicate count x true false h);
}
