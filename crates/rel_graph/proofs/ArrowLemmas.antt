-- The arrows between steps, as they are put one after another.
use Rattle.std.proofs.Common.{◌≡◌, ◌⊎◌, ℕ, ◌+◌, ◌/◌, ◌%◌, ◌<◌, List, [], ◌∷◌, ◌++◌, length, take, get_or, inl, inr, sym, ap, ap₂, subst, ◌∙◌, arith, Contains, below_more}
use Rattle.std.proofs.lemmas.List.{take_more}
use Rattle.std.proofs.lemmas.Bool.{cases_lt}
use Rattle.std.proofs.lemmas.List.Elements.{All-contains_itself, All-weaker, Contains-push, Contains-push_cases, Contains-append_left}
use Rattle.std.proofs.lemmas.Nat.{div-add-mod', mod_below}
use Rattle.rel_graph.specs.Chains.{Paired}
use Rattle.rel_graph.specs.Pairs.{AllBelow}
use Rattle.rel_graph.specs.Steps.{begin_of, listing_of, end_of, AreArrows}
use Rattle.rel_graph.proofs.Below.{paired_below}

none_here : (u v : ℕ) → ¬ (Paired [] u v)
none_here u v p = absurd (let h = p.1 in omega (arith, h))

pub no_arrows : AreArrows [] [] 0 []
no_arrows = record {
  begun = λ x h. absurd (omega (arith, h));
  listed = λ x h. absurd (omega (arith, h));
  down = λ c m p. absurd (none_here c m p);
  up = λ c m p. absurd (none_here c m p);
  across = λ a b p. absurd (none_here a b p);
  to_begin = λ u x p. absurd (none_here u (begin_of x) p);
  to_listing = λ u x p. absurd (none_here u (listing_of x) p);
  to_end = λ u x p. absurd (none_here u (end_of x) p);
}

-- one arrow more
abbrev pub and_one : List (ℕ × ℕ) → ℕ → ℕ → List (ℕ × ℕ)
and_one arrows a b = arrows ++ (a, b) ∷ []

-- two more
abbrev pub and_two : List (ℕ × ℕ) → ℕ → ℕ → ℕ → ℕ → List (ℕ × ℕ)
and_two arrows a b c d = (arrows ++ (a, b) ∷ []) ++ (c, d) ∷ []

module _ (arrows : List (ℕ × ℕ)) (a b : ℕ) where
  one_kept : (u v : ℕ) → Paired arrows u v → Paired (and_one arrows a b) u v
  one_kept u v p = Contains-append_left arrows ((a, b) ∷ []) (u, v) p

  one_last : Paired (and_one arrows a b) a b
  one_last = Contains-push arrows (a, b)

  one_cases : (u v : ℕ) → Paired (and_one arrows a b) u v → Paired arrows u v ⊎ ((a ≡ u) × (b ≡ v))
  one_cases u v p = elim (Contains-push_cases arrows (a, b) (u, v) p) [
    | inl old ↦ inl old
    | inr e ↦ inr (ap (λ r. r.0) e, ap (λ r. r.1) e)
  ]

module _ (arrows : List (ℕ × ℕ)) (a b c d : ℕ) where
  two_kept : (u v : ℕ) → Paired arrows u v → Paired (and_two arrows a b c d) u v
  two_kept u v p = one_kept (and_one arrows a b) c d u v (one_kept arrows a b u v p)

  two_first : Paired (and_two arrows a b c d) a b
  two_first = one_kept (and_one arrows a b) c d a b (one_last arrows a b)

  two_last : Paired (and_two arrows a b c d) c d
  two_last = one_last (and_one arrows a b) c d

  two_cases : (u v : ℕ) → Paired (and_two arrows a b c d) u v →
      Paired arrows u v ⊎ (((a ≡ u) × (b ≡ v)) ⊎ ((c ≡ u) × (d ≡ v)))
  two_cases u v p = elim (one_cases (and_one arrows a b) c d u v p) [
    | inr e ↦ inr (inr e)
    | inl q ↦ elim (one_cases arrows a b u v q) [
      | inr e ↦ inr (inl e)
      | inl old ↦ inl old
    ]
  ]

module _ (C E arrows : List (ℕ × ℕ)) (n : ℕ) (s : AreArrows C E n arrows) where
  -- one more resource
  abbrev of_resource : List (ℕ × ℕ)
  of_resource = and_two arrows (begin_of n) (listing_of n) (listing_of n) (end_of n)

  resource_kept : (u v : ℕ) → Paired arrows u v → Paired of_resource u v
  resource_kept = two_kept arrows (begin_of n) (listing_of n) (listing_of n) (end_of n)

  resource_cases : (u v : ℕ) → Paired of_resource u v →
      Paired arrows u v ⊎ (((begin_of n ≡ u) × (listing_of n ≡ v)) ⊎ ((listing_of n ≡ u) × (end_of n ≡ v)))
  resource_cases = two_cases arrows (begin_of n) (listing_of n) (listing_of n) (end_of n)

  pub resource_more : AreArrows C E (n + 1) of_resource
  resource_more = record {
    begun = below_more (λ x. Paired of_resource (begin_of x) (listing_of x)) n
        (λ x h. resource_kept (begin_of x) (listing_of x) (s.begun x h))
        (two_first arrows (begin_of n) (listing_of n) (listing_of n) (end_of n));
    listed = below_more (λ x. Paired of_resource (listing_of x) (end_of x)) n
        (λ x h. resource_kept (listing_of x) (end_of x) (s.listed x h))
        (two_last arrows (begin_of n) (listing_of n) (listing_of n) (end_of n));
    down = λ c m p. resource_kept (begin_of c) (begin_of m) (s.down c m p);
    up = λ c m p. resource_kept (end_of m) (end_of c) (s.up c m p);
    across = λ a b p. resource_kept (end_of a) (begin_of b) (s.across a b p);
    to_begin = λ u x p. elim (resource_cases u (begin_of x) p) [
      | inl old ↦ s.to_begin u x old
      | inr (inl e) ↦ absurd (let f = e.1 in omega (arith, f))
      | inr (inr e) ↦ absurd (let f = e.1 in omega (arith, f))
    ];
    to_listing = λ u x p. elim (resource_cases u (listing_of x) p) [
      | inl old ↦ (let q = s.to_listing u x old in let n = q.1 in (q.0, omega (arith, n)))
      | inr (inl e) ↦ (let d = e.0 in let f = e.1 in (omega (arith, d, f), omega (arith, f)))
      | inr (inr e) ↦ absurd (let f = e.1 in omega (arith, f))
    ];
    to_end = λ u x p. elim (resource_cases u (end_of x) p) [
      | inl old ↦ elim (s.to_end u x old) [
        | inl q ↦ inl (let n = q.1 in (q.0, omega (arith, n)))
        | inr q ↦ inr q
      ]
      | inr (inl e) ↦ absurd (let f = e.1 in omega (arith, f))
      | inr (inr e) ↦ inl (let d = e.0 in let f = e.1 in (omega (arith, d, f), omega (arith, f)))
    ];
  }

  -- one more member of a container
  module _ (k m : ℕ) where
    abbrev of_member : List (ℕ × ℕ)
    of_member = and_two arrows (begin_of k) (begin_of m) (end_of m) (end_of k)

    member_kept : (u v : ℕ) → Paired arrows u v → Paired of_member u v
    member_kept = two_kept arrows (begin_of k) (begin_of m) (end_of m) (end_of k)

    member_cases : (u v : ℕ) → Paired of_member u v →
        Paired arrows u v ⊎ (((begin_of k ≡ u) × (begin_of m ≡ v)) ⊎ ((end_of m ≡ u) × (end_of k ≡ v)))
    member_cases = two_cases arrows (begin_of k) (begin_of m) (end_of m) (end_of k)

    pub member_more : AreArrows (and_one C k m) E n of_member
    member_more = record {
      begun = λ x h. member_kept (begin_of x) (listing_of x) (s.begun x h);
      listed = λ x h. member_kept (listing_of x) (end_of x) (s.listed x h);
      down = λ x y p. elim (one_cases C k m x y p) [
        | inl q ↦ member_kept (begin_of x) (begin_of y) (s.down x y q)
        | inr e ↦ subst (λ z. Paired of_member (begin_of z) (begin_of y)) e.0
            (subst (λ z. Paired of_member (begin_of k) (begin_of z)) e.1
            (two_first arrows (begin_of k) (begin_of m) (end_of m) (end_of k)))
      ];
      up = λ x y p. elim (one_cases C k m x y p) [
        | inl q ↦ member_kept (end_of y) (end_of x) (s.up x y q)
        | inr e ↦ subst (λ z. Paired of_member (end_of y) (end_of z)) e.0
            (subst (λ z. Paired of_member (end_of z) (end_of k)) e.1
            (two_last arrows (begin_of k) (begin_of m) (end_of m) (end_of k)))
      ];
      across = λ a b p. member_kept (end_of a) (begin_of b) (s.across a b p);
      to_begin = λ u x p. elim (member_cases u (begin_of x) p) [
        | inl old ↦ elim (s.to_begin u x old) [
          | inl q ↦ inl (q.0, q.1, one_kept C k m q.0 x q.2)
          | inr q ↦ inr q
        ]
        | inr (inl e) ↦ inl (
          k,
          sym e.0,
          subst (λ z. Paired (and_one C k m) k z)
              (let f = e.1 in omega (arith, f)) (one_last C k m),
        )
        | inr (inr e) ↦ absurd (let f = e.1 in omega (arith, f))
      ];
      to_listing = λ u x p. elim (member_cases u (listing_of x) p) [
        | inl old ↦ s.to_listing u x old
        | inr (inl e) ↦ absurd (let f = e.1 in omega (arith, f))
        | inr (inr e) ↦ absurd (let f = e.1 in omega (arith, f))
      ];
      to_end = λ u x p. elim (member_cases u (end_of x) p) [
        | inl old ↦ elim (s.to_end u x old) [
          | inl q ↦ inl q
          | inr q ↦ inr (q.0, q.1, one_kept C k m x q.0 q.2)
        ]
        | inr (inl e) ↦ absurd (let f = e.1 in omega (arith, f))
        | inr (inr e) ↦ inr (
          m,
          sym e.0,
          subst (λ z. Paired (and_one C k m) z m)
              (let f = e.1 in omega (arith, f)) (one_last C k m),
        )
      ];
    }

  -- one more edge
  module _ (k m : ℕ) where
    abbrev of_edge : List (ℕ × ℕ)
    of_edge = and_one arrows (end_of k) (begin_of m)

    edge_kept : (u v : ℕ) → Paired arrows u v → Paired of_edge u v
    edge_kept = one_kept arrows (end_of k) (begin_of m)

    edge_cases : (u v : ℕ) → Paired of_edge u v → Paired arrows u v ⊎ ((end_of k ≡ u) × (begin_of m ≡ v))
    edge_cases = one_cases arrows (end_of k) (begin_of m)

    pub edge_more : AreArrows C (and_one E k m) n of_edge
    edge_more = record {
      begun = λ x h. edge_kept (begin_of x) (listing_of x) (s.begun x h);
      listed = λ x h. edge_kept (listing_of x) (end_of x) (s.listed x h);
      down = λ x y p. edge_kept (begin_of x) (begin_of y) (s.down x y p);
      up = λ x y p. edge_kept (end_of y) (end_of x) (s.up x y p);
      across = λ x y p. elim (one_cases E k m x y p) [
        | inl q ↦ edge_kept (end_of x) (begin_of y) (s.across x y q)
        | inr e ↦ subst (λ z. Paired of_edge (end_of z) (begin_of y)) e.0
            (subst (λ z. Paired of_edge (end_of k) (begin_of z)) e.1 (one_last arrows (end_of k) (begin_of m)))
      ];
      to_begin = λ u x p. elim (edge_cases u (begin_of x) p) [
        | inl old ↦ elim (s.to_begin u x old) [
          | inl q ↦ inl q
          | inr q ↦ inr (q.0, q.1, one_kept E k m q.0 x q.2)
        ]
        | inr e ↦ inr (
          k,
          sym e.0,
          subst (λ z. Paired (and_one E k m) k z)
              (let f = e.1 in omega (arith, f)) (one_last E k m),
        )
      ];
      to_listing = λ u x p. elim (edge_cases u (listing_of x) p) [
        | inl old ↦ s.to_listing u x old
        | inr e ↦ absurd (let f = e.1 in omega (arith, f))
      ];
      to_end = λ u x p. elim (edge_cases u (end_of x) p) [
        | inl old ↦ s.to_end u x old
        | inr e ↦ absurd (let f = e.1 in omega (arith, f))
      ];
    }

-- ---- all are steps of resources

thirds : (v : ℕ) → (v ≡ begin_of (v / 3)) ⊎ ((v ≡ listing_of (v / 3)) ⊎ (v ≡ end_of (v / 3)))
thirds v =
    let whole = div-add-mod' v 3 in
    let part = mod_below v 3 (omega arith) in
    elim (cases_lt (v % 3) 1) [
      | inl none ↦ inl (omega (arith, whole, none))
      | inr some ↦ elim (cases_lt (v % 3) 2) [
        | inl one ↦ inr (inl (omega (arith, whole, some, one)))
        | inr two ↦ inr (inr (omega (arith, whole, part, two)))
      ]
    ]

module _ (C E arrows : List (ℕ × ℕ)) (n : ℕ) (below : AllBelow C n) (edges_below : AllBelow E n)
    (s : AreArrows C E n arrows) where
  arrow_below : (a : ℕ × ℕ) → Contains arrows a → (a.0 < begin_of n) × (a.1 < begin_of n)
  arrow_below (u, v) p = elim (thirds v) [
    | inl e ↦ elim (s.to_begin u (v / 3) (subst (λ w. Paired arrows u w) e p)) [
      | inl q ↦
          let b = paired_below C n q.0 (v / 3) below q.2 in
          let h = b.0 in let k = b.1 in let d = q.1 in (omega (arith, h, d), omega (arith, k, e))
      | inr q ↦
          let b = paired_below E n q.0 (v / 3) edges_below q.2 in
          let h = b.0 in let k = b.1 in let d = q.1 in (omega (arith, h, d), omega (arith, k, e))
    ]
    | inr (inl e) ↦
        let q = s.to_listing u (v / 3) (subst (λ w. Paired arrows u w) e p) in
        let d = q.0 in let h = q.1 in (omega (arith, h, d), omega (arith, h, e))
    | inr (inr e) ↦ elim (s.to_end u (v / 3) (subst (λ w. Paired arrows u w) e p)) [
      | inl q ↦ (let d = q.0 in let h = q.1 in (omega (arith, h, d), omega (arith, h, e)))
      | inr q ↦
          let b = paired_below C n (v / 3) q.0 below q.2 in
          let h = b.0 in let k = b.1 in let d = q.1 in (omega (arith, k, d), omega (arith, h, e))
    ]
  ]

  pub arrows_below : AllBelow arrows (begin_of n)
  arrows_below = All-weaker (Contains arrows) (λ a. (a.0 < begin_of n) × (a.1 < begin_of n)) arrow_below arrows
      (All-contains_itself arrows)

-- ---- as the code puts them

pub resource_at : (arrows next after : List (ℕ × ℕ)) (i a b c d : ℕ) → AreArrows [] [] i arrows →
    next ≡ and_one arrows a b → after ≡ and_one next c d →
    a ≡ begin_of i → b ≡ listing_of i → c ≡ listing_of i → d ≡ end_of i → AreArrows [] [] (i + 1) after
resource_at arrows next after i a b c d s first_put then_put ea eb ec ed =
    let one : next ≡ and_one arrows (begin_of i) (listing_of i) = first_put ∙ ap₂ (λ x y. and_one arrows x y) ea eb in
    subst (λ l. AreArrows [] [] (i + 1) l)
    (sym (then_put ∙ ap₂ (λ x y. and_one next x y) ec ed ∙ ap (λ l. and_one l (listing_of i) (end_of i)) one))
    (resource_more [] [] arrows i s)

pub member_at : (C arrows next after : List (ℕ × ℕ)) (n i a b c d : ℕ) → i < length C →
    AreArrows (take i C) [] n arrows → next ≡ and_one arrows a b → after ≡ and_one next c d →
    a ≡ begin_of (get_or C i (0, 0)).0 → b ≡ begin_of (get_or C i (0, 0)).1 →
    c ≡ end_of (get_or C i (0, 0)).1 → d ≡ end_of (get_or C i (0, 0)).0 → AreArrows (take (i + 1) C) [] n after
member_at C arrows next after n i a b c d h s first_put then_put ea eb ec ed =
    let p : ℕ × ℕ = get_or C i (0, 0) in
    let one : next ≡ and_one arrows (begin_of p.0) (begin_of p.1) =
    first_put ∙ ap₂ (λ x y. and_one arrows x y) ea eb in
    let is : after ≡ and_two arrows (begin_of p.0) (begin_of p.1) (end_of p.1) (end_of p.0) =
    then_put ∙ ap₂ (λ x y. and_one next x y) ec ed ∙ ap (λ l. and_one l (end_of p.1) (end_of p.0)) one in
    subst (λ l. AreArrows (take (i + 1) C) [] n l) (sym is)
    (subst (λ l. AreArrows l [] n (and_two arrows (begin_of p.0) (begin_of p.1) (end_of p.1) (end_of p.0)))
    (sym (take_more C i (0, 0) h)) (member_more (take i C) [] arrows n s p.0 p.1))

pub edge_at : (C E arrows after : List (ℕ × ℕ)) (n i a b : ℕ) → i < length E → AreArrows C (take i E) n arrows →
    after ≡ and_one arrows a b → a ≡ end_of (get_or E i (0, 0)).0 → b ≡ begin_of (get_or E i (0, 0)).1 →
    AreArrows C (take (i + 1) E) n after
edge_at C E arrows after n i a b h s put_it ea eb =
    let p : ℕ × ℕ = get_or E i (0, 0) in
    let is : after ≡ and_one arrows (end_of p.0) (begin_of p.1) = put_it ∙ ap₂ (λ x y. and_one arrows x y) ea eb in
    subst (λ l. AreArrows C (take (i + 1) E) n l) (sym is)
    (subst (λ l. AreArrows C l n (and_one arrows (end_of p.0) (begin_of p.1)))
    (sym (take_more E i (0, 0) h)) (edge_more C (take i E) arrows n s p.0 p.1))
