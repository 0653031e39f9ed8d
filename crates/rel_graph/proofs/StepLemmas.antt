-- What is counted and pending, as one step after another is done.
use Rattle.std.proofs.Common.{◌≡◌, ◌⊎◌, ℕ, zero, suc, ◌+◌, ◌<◌, ◌≤◌, Bool, true, false, List, [], ◌∷◌, ◌++◌, length, get_or, set, slice_index, Contains, inl, inr, refl, sym, subst, ap, ◌∙◌, arith, length-set, cond}
use Rattle.std.specs.List.{All}
use Rattle.std.specs.Ordering.{nat_cmp}
use Rattle.std.specs.declared.cmp.Ordering.TheVariants.{Less}
use Rattle.std.specs.BTreeMap.{is_at}
use Rattle.std.specs.BTreeMap.Range.{IsLtBy}
use Rattle.std.specs.BTreeSet.{BTreeSet, contains, Updates}
use Rattle.std.proofs.lemmas.Bool.{cases_lt}
use Rattle.std.proofs.lemmas.Cmp.{ranked, nat_cmp_total}
use Rattle.std.proofs.lemmas.List.Elements.{Contains-push, Contains-push_cases, Contains-append_left, Contains-append_right, Contains-append_cases, All-contains}
use Rattle.std.proofs.lemmas.Map.Lookups.{exact_unsigned}
use Rattle.std.proofs.lemmas.Map.Views.{btree_set_contains_iff, tells_apart}
use lib.ListN.{get_or-eq_default}
use Rattle.rel_graph.specs.Marks.{Marked}
use Rattle.rel_graph.specs.Releases.{times, targets, Released}
use Rattle.rel_graph.specs.Steps.{IsListing, Pending, AreCounted, AreReady}
use Rattle.rel_graph.proofs.Marking.{marked_within, marked_set_here, marked_set_keeps, marked_set_cases, marked_set_other}
use Rattle.rel_graph.proofs.ReleaseLemmas.{waiting_done}

pub some_within : (xs : List ℕ) (x : ℕ) → 0 < slice_index xs x → x < length xs
some_within xs x some = elim (cases_lt x (length xs)) [
  | inl less ↦ less
  | inr more ↦ absurd (let none : slice_index xs x ≡ 0 = get_or-eq_default xs 0 more in omega (arith, none, some))
]

zero_or_some : (n : ℕ) → (n ≡ 0) ⊎ (0 < n)
zero_or_some zero = inl refl
zero_or_some (suc n) = inr (omega arith)

module _ (arrows : List (ℕ × ℕ)) (steps : ℕ) (done : List Bool) (waits : List ℕ) (P : ℕ → Type 0)
    (s : AreCounted arrows steps done waits P) where
  -- the same steps are pending
  pub counted_same : (Q : ℕ → Type 0) → ((x : ℕ) → P x → Q x) → ((x : ℕ) → Q x → P x) →
      AreCounted arrows steps done waits Q
  counted_same Q to from = record {
    marks = s.marks;
    counts = s.counts;
    counted = s.counted;
    none = s.none;
    sound = λ x q. s.sound x (from x q);
    all = λ x h z. elim (s.all x h z) [
      | inl d ↦ inl d
      | inr p ↦ inr (to x p)
    ];
  }

  module _ (u : ℕ) where
    -- one that is done is no longer pending
    pub counted_passed : (Q : ℕ → Type 0) → Marked done u → ((x : ℕ) → P x → (u ≡ x) ⊎ Q x) →
        ((x : ℕ) → Q x → P x) → AreCounted arrows steps done waits Q
    counted_passed Q m to from = record {
      marks = s.marks;
      counts = s.counts;
      counted = s.counted;
      none = s.none;
      sound = λ x q. s.sound x (from x q);
      all = λ x h z. elim (s.all x h z) [
        | inl d ↦ inl d
        | inr p ↦ elim (to x p) [
          | inl same ↦ inl (subst (λ y. Marked done y) same m)
          | inr q ↦ inr q
        ]
      ];
    }

    module _ (p : P u) (undone : get_or done u false ≡ false) where
      pub step_within : u < steps
      step_within = (s.sound u p).0

      within : u < length done
      within = (let n = step_within in let e = s.marks in omega (arith, n, e))

      -- it holds back no step more often than that step counts
      pub enough_there : (x : ℕ) → x < steps → times (targets arrows u) x ≤ slice_index waits x
      enough_there x h =
          let a = s.counted x h in let c = waiting_done done arrows u x within undone in omega (arith, a, c)

      -- it is done, and what it held back counts one less for each arrow
      pub counted_more : (next : List ℕ) (Q : ℕ → Type 0) → length next ≡ length waits →
          ((x : ℕ) → x < length waits → slice_index next x + times (targets arrows u) x ≡ slice_index waits x) →
          ((x : ℕ) → P x → (u ≡ x) ⊎ Q x) →
          ((x : ℕ) → slice_index next x ≡ 0 → 0 < slice_index waits x → Q x) →
          ((x : ℕ) → Q x → P x ⊎ ((slice_index next x ≡ 0) × (0 < slice_index waits x))) →
          AreCounted arrows steps (set done u true) next Q
      counted_more next Q long lowered to freed from = record {
        marks = length-set done u true ∙ s.marks;
        counts = long ∙ s.counts;
        counted = λ x h.
            let a = s.counted x h in
            let b = lowered x (let e = s.counts in omega (arith, e, h)) in
            let c = waiting_done done arrows u x within undone in
            omega (arith, a, b, c);
        none = λ x m. elim (marked_set_cases done u x m) [
          | inl same ↦ subst (λ y. slice_index next y ≡ 0) same
              (let a = lowered u (let e = s.counts in let n = step_within in omega (arith, e, n)) in
              let b = (s.sound u p).1 in omega (arith, a, b))
          | inr d ↦
              let n = marked_within done x d in
              let a = lowered x (let e = s.counts in let f = s.marks in omega (arith, e, f, n)) in
              let b = s.none x d in omega (arith, a, b)
        ];
        sound = λ x q. elim (from x q) [
          | inl r ↦
              let b = s.sound x r in
              let n = b.0 in
              let z = b.1 in
              (n, (let a = lowered x (let e = s.counts in omega (arith, e, n)) in omega (arith, a, z)))
          | inr z ↦ (let n = some_within waits x z.1 in let e = s.counts in omega (arith, n, e), z.0)
        ];
        all = λ x h z. elim (zero_or_some (slice_index waits x)) [
          | inl n ↦ elim (s.all x h n) [
            | inl d ↦ inl (marked_set_keeps done u x within d)
            | inr r ↦ elim (to x r) [
              | inl same ↦ inl (subst (λ y. Marked (set done u true) y) same (marked_set_here done u within))
              | inr q ↦ inr q
            ]
          ]
          | inr some ↦ inr (freed x z some)
        ];
      }

-- ---- what is ready

either : (b : Bool) → cond b true true ≡ true
either true = refl
either false = refl

one_of : (b c : Bool) → cond b true c ≡ true → (b ≡ true) ⊎ (c ≡ true)
one_of true c e = inl refl
one_of false c e = inr e

module _ (step : ℕ) (old new : BTreeSet ℕ) (u : Updates nat_cmp old new step true) where
  pub ready_kept : (x : ℕ) → Contains old.keys x → Contains new.keys x
  ready_kept x c =
      let was : contains nat_cmp old x ≡ true = (btree_set_contains_iff nat_cmp_total exact_unsigned old x).1 c in
      (btree_set_contains_iff nat_cmp_total exact_unsigned new x).0
      (u.0 x ∙ ap (λ b. cond (is_at (nat_cmp step) x) true b) was ∙ either (is_at (nat_cmp step) x))

  pub ready_here : Contains new.keys step
  ready_here = (btree_set_contains_iff nat_cmp_total exact_unsigned new step).0 u.1

  pub ready_cases : (x : ℕ) → Contains new.keys x → Contains old.keys x ⊎ (step ≡ x)
  ready_cases x c = elim (one_of (is_at (nat_cmp step) x) (contains nat_cmp old x)
      (sym (u.0 x) ∙ (btree_set_contains_iff nat_cmp_total exact_unsigned new x).1 c)) [
        | inl here ↦ inr (tells_apart exact_unsigned step x here)
        | inr there ↦ inl ((btree_set_contains_iff nat_cmp_total exact_unsigned old x).0 there)
      ]

-- the first of what is ready is below the others
pub first_below : (step x : ℕ) (rest : List ℕ) → All (IsLtBy nat_cmp step) rest → Contains rest x → step < x
first_below step x rest above c =
    let less : nat_cmp step x ≡ Less = All-contains (IsLtBy nat_cmp step) rest x above c in
    ranked step x Less (sym less)

pub first_or_rest : (y : ℕ) (rest : List ℕ) (x : ℕ) → Contains (y ∷ rest) x → (y ≡ x) ⊎ Contains rest x
first_or_rest y rest x c = elim (Contains-append_cases (y ∷ []) rest x c) [
  | inl h ↦ elim (Contains-push_cases [] y x h) [
    | inl none ↦ absurd (let n = none.1 in omega (arith, n))
    | inr same ↦ inl same
  ]
  | inr h ↦ inr h
]

pub in_rest : (y : ℕ) (rest : List ℕ) (x : ℕ) → Contains rest x → Contains (y ∷ rest) x
in_rest y rest x c = Contains-append_right (y ∷ []) rest x c

-- ---- one step that was free

module _ (arrows : List (ℕ × ℕ)) (steps : ℕ) (done : List Bool) (waits free ready : List ℕ) (step : ℕ)
    (s : AreCounted arrows steps done waits (Pending (free ++ step ∷ []) ready)) (r : AreReady done ready) where
  last_pending : Pending (free ++ step ∷ []) ready step
  last_pending = inl (Contains-push free step)

  still_pending : (x : ℕ) → Pending free ready x → Pending (free ++ step ∷ []) ready x
  still_pending x (inl f) = inl (Contains-append_left free (step ∷ []) x f)
  still_pending x (inr q) = inr q

  pending_cases : (x : ℕ) → Pending (free ++ step ∷ []) ready x → (step ≡ x) ⊎ Pending free ready x
  pending_cases x (inl f) = elim (Contains-push_cases free step x f) [
    | inl old ↦ inr (inl old)
    | inr same ↦ inl same
  ]
  pending_cases x (inr q) = inr (inr q)

  pub free_within : step < steps
  free_within = (s.sound step last_pending).0

  pub free_done : Marked done step → AreCounted arrows steps done waits (Pending free ready)
  free_done m = counted_passed arrows steps done waits (Pending (free ++ step ∷ []) ready) s step
      (Pending free ready) m pending_cases still_pending

  module _ (undone : get_or done step false ≡ false) where
    -- it lists a resource
    module _ (old new : BTreeSet ℕ) (u : Updates nat_cmp old new step true) (is : old.keys ≡ ready) where
      new_kept : (x : ℕ) → Contains ready x → Contains new.keys x
      new_kept x c = ready_kept step old new u x (subst (λ l. Contains l x) (sym is) c)

      new_cases : (x : ℕ) → Contains new.keys x → Contains ready x ⊎ (step ≡ x)
      new_cases x c = elim (ready_cases step old new u x c) [
        | inl h ↦ inl (subst (λ l. Contains l x) is h)
        | inr same ↦ inr same
      ]

      pub listing_counted : AreCounted arrows steps done waits (Pending free new.keys)
      listing_counted = counted_same arrows steps done waits (Pending (free ++ step ∷ []) ready) s
          (Pending free new.keys)
          (λ x p. elim (pending_cases x p) [
            | inl same ↦ inr (subst (λ y. Contains new.keys y) same (ready_here step old new u))
            | inr (inl f) ↦ inl f
            | inr (inr q) ↦ inr (new_kept x q)
          ])
          (λ x p. elim p [
            | inl f ↦ still_pending x (inl f)
            | inr q ↦ elim (new_cases x q) [
              | inl h ↦ inr h
              | inr same ↦ subst (λ y. Pending (free ++ step ∷ []) ready y) same last_pending
            ]
          ])

      pub listing_ready : IsListing step → AreReady done new.keys
      listing_ready listing = record {
        listings = λ v c. elim (new_cases v c) [
          | inl h ↦ r.listings v h
          | inr same ↦ subst (λ y. IsListing y) same listing
        ];
        undone = λ v c. elim (new_cases v c) [
          | inl h ↦ r.undone v h
          | inr same ↦ subst (λ y. get_or done y false ≡ false) same undone
        ];
      }

    -- it does not
    pub free_enough : (x : ℕ) → x < steps → times (targets arrows step) x ≤ slice_index waits x
    free_enough = enough_there arrows steps done waits (Pending (free ++ step ∷ []) ready) s step last_pending undone

    pub free_counted : (next more : List ℕ) → Released (targets arrows step) waits next free more →
        AreCounted arrows steps (set done step true) next (Pending more ready)
    free_counted next more f = counted_more arrows steps done waits (Pending (free ++ step ∷ []) ready) s step
        last_pending undone next (Pending more ready) f.long f.counted
        (λ x p. elim (pending_cases x p) [
          | inl same ↦ inl same
          | inr (inl old) ↦ inr (inl (f.kept x old))
          | inr (inr q) ↦ inr (inr q)
        ])
        (λ x z some. inl (f.freed x z some))
        (λ x p. elim p [
          | inl now ↦ elim (f.sound x now) [
            | inl old ↦ inl (still_pending x (inl old))
            | inr z ↦ inr z
          ]
          | inr q ↦ inl (inr q)
        ])

    module _ (other : ¬ (IsListing step)) where
      pub free_listings : (v : ℕ) → IsListing v → get_or (set done step true) v false ≡ get_or done v false
      free_listings v listing = marked_set_other done step v true
          (λ same. other (subst (λ y. IsListing y) same listing))

      pub free_ready : AreReady (set done step true) ready
      free_ready = record {
        listings = r.listings;
        undone = λ v c. free_listings v (r.listings v c) ∙ r.undone v c;
      }

-- ---- one step that was ready

module _ (arrows : List (ℕ × ℕ)) (steps : ℕ) (done : List Bool) (waits ready rest : List ℕ) (step : ℕ)
    (is : ready ≡ step ∷ rest) (s : AreCounted arrows steps done waits (Pending [] ready)) (r : AreReady done ready)
  where
    first_ready : Contains ready step
    first_ready = subst (λ l. Contains l step) (sym is) (Contains-append_left (step ∷ []) rest step (Contains-push []
        step))

    rest_ready : (x : ℕ) → Contains rest x → Contains ready x
    rest_ready x c = subst (λ l. Contains l x) (sym is) (in_rest step rest x c)

    cases_ready : (x : ℕ) → Contains ready x → (step ≡ x) ⊎ Contains rest x
    cases_ready x c = first_or_rest step rest x (subst (λ l. Contains l x) is c)

    pub first_within : step < steps
    first_within = (s.sound step (inr first_ready)).0

    pub first_listing : IsListing step
    first_listing = r.listings step first_ready

    pub first_undone : get_or done step false ≡ false
    first_undone = r.undone step first_ready

    pub first_enough : (x : ℕ) → x < steps → times (targets arrows step) x ≤ slice_index waits x
    first_enough = enough_there arrows steps done waits (Pending [] ready) s step (inr first_ready) first_undone

    pub first_counted : (next free : List ℕ) → Released (targets arrows step) waits next [] free →
        AreCounted arrows steps (set done step true) next (Pending free rest)
    first_counted next free f = counted_more arrows steps done waits (Pending [] ready) s step
        (inr first_ready) first_undone next (Pending free rest) f.long f.counted
        (λ x p. elim p [
          | inl none ↦ absurd (let n = none.1 in omega (arith, n))
          | inr q ↦ elim (cases_ready x q) [
            | inl same ↦ inl same
            | inr later ↦ inr (inr later)
          ]
        ])
        (λ x z some. inl (f.freed x z some))
        (λ x p. elim p [
          | inl now ↦ elim (f.sound x now) [
            | inl none ↦ absurd (let n = none.1 in omega (arith, n))
            | inr z ↦ inr z
          ]
          | inr q ↦ inl (inr (rest_ready x q))
        ])

    pub rest_is_ready : All (IsLtBy nat_cmp step) rest → AreReady (set done step true) rest
    rest_is_ready above = record {
      listings = λ v c. r.listings v (rest_ready v c);
      undone = λ v c. marked_set_other done step v true
          (λ same. (let less = first_below step v rest above c in omega (arith, less, same))) ∙ r.undone v (rest_ready v
          c);
    }
