-- The arrows between nodes, as they are put one after another, and what they lead to.
use Rattle.std.proofs.Common.{◌≡◌, ◌⊎◌, ℕ, zero, suc, ◌+◌, ◌<◌, ◌≤◌, List, [], ◌∷◌, ◌++◌, length, take, get_or, inl, inr, refl, sym, ap, subst, ◌∙◌, arith}
use Rattle.std.proofs.lemmas.List.{take_more}
use Rattle.std.proofs.lemmas.List.Elements.{Contains-push, Contains-push_cases, Contains-append_left}
use Rattle.std.proofs.lemmas.Bool.{cases_lt}
use Rattle.std.proofs.lemmas.List.{get_or_default}
use Rattle.rel_graph.specs.Chains.{Paired}
use Rattle.rel_graph.specs.Pairs.{AllBelow}
use Rattle.rel_graph.proofs.Below.{paired_below}
use Rattle.agent_marks.specs.Nodes.{begin_of, end_of, AreArrows}

begin_apart : (a b : ℕ) → begin_of a ≡ begin_of b → a ≡ b
begin_apart a b e = omega (arith, e)

end_apart : (a b : ℕ) → end_of a ≡ end_of b → a ≡ b
end_apart a b e = omega (arith, e)

begin_not_end : (a b : ℕ) → end_of a ≡ begin_of b → ⊥
begin_not_end a b e = omega (arith, e)

pub no_arrows : AreArrows 0 [] [] []
no_arrows = record {
  down = λ c m p. absurd (let h = p.1 in omega (arith, h));
  up = λ c m p. absurd (let h = p.1 in omega (arith, h));
  across = λ a b p. absurd (let h = p.1 in omega (arith, h));
  along = λ x h. absurd (omega (arith, h));
  to_begin = λ u x p. absurd (let h = p.1 in omega (arith, h));
  to_end = λ u x p. absurd (let h = p.1 in omega (arith, h));
}

module _ (C E arrows : List (ℕ × ℕ)) (s : AreArrows 0 C E arrows) where
  -- one more member of a container
  module _ (c m : ℕ) where
    lower : List (ℕ × ℕ)
    lower = arrows ++ (begin_of c, begin_of m) ∷ []

    kept : (u v : ℕ) → Paired arrows u v → Paired ((arrows ++ (begin_of c, begin_of m) ∷ []) ++ (end_of m, end_of c) ∷ []) u v
    kept u v p = Contains-append_left (arrows ++ (begin_of c, begin_of m) ∷ []) ((end_of m, end_of c) ∷ []) (u, v) (Contains-append_left arrows ((begin_of c, begin_of m) ∷ []) (u, v) p)

    pub contained : AreArrows 0 (C ++ (c, m) ∷ []) E ((arrows ++ (begin_of c, begin_of m) ∷ []) ++ (end_of m, end_of c) ∷ [])
    contained = record {
      down = λ x y p. elim (Contains-push_cases C (c, m) (x, y) p) [
        | inl q ↦ kept (begin_of x) (begin_of y) (s.down x y q)
        | inr e ↦ subst (λ r. Paired ((arrows ++ (begin_of c, begin_of m) ∷ []) ++ (end_of m, end_of c) ∷ []) (begin_of r.0) (begin_of r.1)) e
            (Contains-append_left (arrows ++ (begin_of c, begin_of m) ∷ []) ((end_of m, end_of c) ∷ []) (begin_of c, begin_of m) (Contains-push arrows (begin_of c, begin_of m)))
      ];
      up = λ x y p. elim (Contains-push_cases C (c, m) (x, y) p) [
        | inl q ↦ kept (end_of y) (end_of x) (s.up x y q)
        | inr e ↦ subst (λ r. Paired ((arrows ++ (begin_of c, begin_of m) ∷ []) ++ (end_of m, end_of c) ∷ []) (end_of r.1) (end_of r.0)) e
            (Contains-push (arrows ++ (begin_of c, begin_of m) ∷ []) (end_of m, end_of c))
      ];
      across = λ a b p. kept (end_of a) (begin_of b) (s.across a b p);
      along = λ x h. absurd (omega (arith, h));
      to_begin = λ u x p. elim (Contains-push_cases (arrows ++ (begin_of c, begin_of m) ∷ []) (end_of m, end_of c) (u, begin_of x) p) [
        | inr e ↦ absurd (begin_not_end c x (ap (λ r. r.1) e))
        | inl q ↦ elim (Contains-push_cases arrows (begin_of c, begin_of m) (u, begin_of x) q) [
          | inr e ↦ inl (c, sym (ap (λ r. r.0) e), subst (λ y. Paired (C ++ (c, m) ∷ []) c y) (begin_apart m x (ap (λ r. r.1) e)) (Contains-push C (c, m)))
          | inl o ↦ elim (s.to_begin u x o) [
            | inl k ↦ inl (k.0, k.1, Contains-append_left C ((c, m) ∷ []) (k.0, x) k.2)
            | inr k ↦ inr k
          ]
        ]
      ];
      to_end = λ u x p. elim (Contains-push_cases (arrows ++ (begin_of c, begin_of m) ∷ []) (end_of m, end_of c) (u, end_of x) p) [
        | inr e ↦ inl (m, sym (ap (λ r. r.0) e), subst (λ y. Paired (C ++ (c, m) ∷ []) y m) (end_apart c x (ap (λ r. r.1) e)) (Contains-push C (c, m)))
        | inl q ↦ elim (Contains-push_cases arrows (begin_of c, begin_of m) (u, end_of x) q) [
          | inr e ↦ absurd (begin_not_end x m (sym (ap (λ r. r.1) e)))
          | inl o ↦ elim (s.to_end u x o) [
            | inl k ↦ inl (k.0, k.1, Contains-append_left C ((c, m) ∷ []) (x, k.0) k.2)
            | inr k ↦ inr k
          ]
        ]
      ];
    }

  -- one more relationship
  pub related : (a b : ℕ) → AreArrows 0 C (E ++ (a, b) ∷ []) (arrows ++ (end_of a, begin_of b) ∷ [])
  related a b = record {
    down = λ x y p. Contains-append_left arrows ((end_of a, begin_of b) ∷ []) (begin_of x, begin_of y) (s.down x y p);
    up = λ x y p. Contains-append_left arrows ((end_of a, begin_of b) ∷ []) (end_of y, end_of x) (s.up x y p);
    across = λ x y p. elim (Contains-push_cases E (a, b) (x, y) p) [
      | inl q ↦ Contains-append_left arrows ((end_of a, begin_of b) ∷ []) (end_of x, begin_of y) (s.across x y q)
      | inr e ↦ subst (λ r. Paired (arrows ++ (end_of a, begin_of b) ∷ []) (end_of r.0) (begin_of r.1)) e (Contains-push arrows (end_of a, begin_of b))
    ];
    along = λ x h. absurd (omega (arith, h));
    to_begin = λ u x p. elim (Contains-push_cases arrows (end_of a, begin_of b) (u, begin_of x) p) [
      | inr e ↦ inr (a, sym (ap (λ r. r.0) e), subst (λ y. Paired (E ++ (a, b) ∷ []) a y) (begin_apart b x (ap (λ r. r.1) e)) (Contains-push E (a, b)))
      | inl o ↦ elim (s.to_begin u x o) [
        | inl k ↦ inl k
        | inr k ↦ inr (k.0, k.1, Contains-append_left E ((a, b) ∷ []) (k.0, x) k.2)
      ]
    ];
    to_end = λ u x p. elim (Contains-push_cases arrows (end_of a, begin_of b) (u, end_of x) p) [
      | inr e ↦ absurd (begin_not_end x b (sym (ap (λ r. r.1) e)))
      | inl o ↦ s.to_end u x o
    ];
  }

pub contained_at : (C arrows next after : List (ℕ × ℕ)) (i a b c d : ℕ) → i < length C → AreArrows 0 (take i C) [] arrows → next ≡ arrows ++ (a, b) ∷ [] → after ≡ next ++ (c, d) ∷ [] →
    a ≡ begin_of (get_or C i (0, 0)).0 → b ≡ begin_of (get_or C i (0, 0)).1 → c ≡ end_of (get_or C i (0, 0)).1 → d ≡ end_of (get_or C i (0, 0)).0 → AreArrows 0 (take (i + 1) C) [] after
contained_at C arrows next after i a b c d h s first_put then_put ea eb ec ed =
    let p : ℕ × ℕ = get_or C i (0, 0) in
    let one : (a, b) ≡ (begin_of p.0, begin_of p.1) = ap (λ n. (n, b)) ea ∙ ap (λ n. (begin_of p.0, n)) eb in
    let two : (c, d) ≡ (end_of p.1, end_of p.0) = ap (λ n. (n, d)) ec ∙ ap (λ n. (end_of p.1, n)) ed in
    let is : after ≡ (arrows ++ (begin_of p.0, begin_of p.1) ∷ []) ++ (end_of p.1, end_of p.0) ∷ [] =
    then_put ∙ ap (λ l. l ++ (c, d) ∷ []) (first_put ∙ ap (λ x. arrows ++ x ∷ []) one) ∙ ap (λ x. (arrows ++ (begin_of p.0, begin_of p.1) ∷ []) ++ x ∷ []) two in
    subst (λ l. AreArrows 0 (take (i + 1) C) [] l) (sym is)
    (subst (λ l. AreArrows 0 l [] ((arrows ++ (begin_of p.0, begin_of p.1) ∷ []) ++ (end_of p.1, end_of p.0) ∷ [])) (sym (take_more C i (0, 0) h)) (contained (take i C) [] arrows s p.0 p.1))

pub related_at : (C E arrows after : List (ℕ × ℕ)) (i a b : ℕ) → i < length E → AreArrows 0 C (take i E) arrows → after ≡ arrows ++ (a, b) ∷ [] →
    a ≡ end_of (get_or E i (0, 0)).0 → b ≡ begin_of (get_or E i (0, 0)).1 → AreArrows 0 C (take (i + 1) E) after
related_at C E arrows after i a b h s put_it ea eb =
    let p : ℕ × ℕ = get_or E i (0, 0) in
    let one : (a, b) ≡ (end_of p.0, begin_of p.1) = ap (λ n. (n, b)) ea ∙ ap (λ n. (end_of p.0, n)) eb in
    let is : after ≡ arrows ++ (end_of p.0, begin_of p.1) ∷ [] = put_it ∙ ap (λ x. arrows ++ x ∷ []) one in
    subst (λ l. AreArrows 0 C (take (i + 1) E) l) (sym is)
    (subst (λ l. AreArrows 0 C l (arrows ++ (end_of p.0, begin_of p.1) ∷ [])) (sym (take_more E i (0, 0) h)) (related C (take i E) arrows s p.0 p.1))

-- ---- arrows through resources

one_more : (x n : ℕ) → x < n + 1 → (x < n) ⊎ (n ≡ x)
one_more x n h = elim (cases_lt x n) [ inl less ↦ inl less | inr more ↦ inr (omega (arith, h, more)) ]

pub through : (n : ℕ) (C E arrows : List (ℕ × ℕ)) → AreArrows n C E arrows →
    AreArrows (n + 1) C E (arrows ++ (begin_of n, end_of n) ∷ [])
through n C E arrows s = record {
  down = λ c m p. Contains-append_left arrows ((begin_of n, end_of n) ∷ []) (begin_of c, begin_of m) (s.down c m p);
  up = λ c m p. Contains-append_left arrows ((begin_of n, end_of n) ∷ []) (end_of m, end_of c) (s.up c m p);
  across = λ a b p. Contains-append_left arrows ((begin_of n, end_of n) ∷ []) (end_of a, begin_of b) (s.across a b p);
  along = λ x h. elim (one_more x n h) [
    | inl less ↦ Contains-append_left arrows ((begin_of n, end_of n) ∷ []) (begin_of x, end_of x) (s.along x less)
    | inr e ↦ subst (λ y. Paired (arrows ++ (begin_of n, end_of n) ∷ []) (begin_of y) (end_of y)) e
        (Contains-push arrows (begin_of n, end_of n))
  ];
  to_begin = λ u x p. elim (Contains-push_cases arrows (begin_of n, end_of n) (u, begin_of x) p) [
    | inr e ↦ absurd (begin_not_end n x (ap (λ r. r.1) e))
    | inl o ↦ s.to_begin u x o
  ];
  to_end = λ u x p. elim (Contains-push_cases arrows (begin_of n, end_of n) (u, end_of x) p) [
    | inr e ↦ let same : n ≡ x = end_apart n x (ap (λ r. r.1) e) in
        inr (sym (ap (λ r. r.0) e) ∙ ap begin_of same, subst (λ y. y < n + 1) same (omega arith))
    | inl o ↦ elim (s.to_end u x o) [ inl k ↦ inl k | inr k ↦ inr (k.0, let h = k.1 in omega (arith, h)) ]
  ];
}

-- ---- all nodes are those of resources

halves : (v : ℕ) → ((x : ℕ) × (v ≡ begin_of x)) ⊎ ((x : ℕ) × (v ≡ end_of x))
halves zero = inl (0, refl)
halves (suc v) = elim (halves v) [
  | inl h ↦ inr (h.0, let e = h.1 in omega (arith, e))
  | inr h ↦ inl (h.0 + 1, let e = h.1 in omega (arith, e))
]

module _ (n t : ℕ) (C E arrows : List (ℕ × ℕ)) (s : AreArrows t C E arrows) (few : t ≤ n) (below : AllBelow C n) (edges_below : AllBelow E n) where
  to_begin_below : (u x : ℕ) → Paired arrows u (begin_of x) → (u < n + n) × (begin_of x < n + n)
  to_begin_below u x p = elim (s.to_begin u x p) [
    | inl k ↦ (let h = paired_below C n k.0 x below k.2 in let e = k.1 in let a = h.0 in let b = h.1 in (omega (arith, e, a), omega (arith, b)))
    | inr k ↦ (let h = paired_below E n k.0 x edges_below k.2 in let e = k.1 in let a = h.0 in let b = h.1 in (omega (arith, e, a), omega (arith, b)))
  ]

  to_end_below : (u x : ℕ) → Paired arrows u (end_of x) → (u < n + n) × (end_of x < n + n)
  to_end_below u x p = elim (s.to_end u x p) [
    | inl k ↦ (let h = paired_below C n x k.0 below k.2 in let e = k.1 in let a = h.0 in let b = h.1 in (omega (arith, e, b), omega (arith, a)))
    | inr k ↦ (let e = k.0 in let h = k.1 in (omega (arith, e, h, few), omega (arith, h, few)))
  ]

  pair_below : (u v : ℕ) → Paired arrows u v → (u < n + n) × (v < n + n)
  pair_below u v p = elim (halves v) [
    | inl h ↦ (let k = to_begin_below u h.0 (subst (Paired arrows u) h.1 p) in (k.0, subst (λ x. x < n + n) (sym h.1) k.1))
    | inr h ↦ (let k = to_end_below u h.0 (subst (Paired arrows u) h.1 p) in (k.0, subst (λ x. x < n + n) (sym h.1) k.1))
  ]

  pub arrows_below : AllBelow arrows (n + n)
  arrows_below = λ k d h. pair_below (get_or arrows k d).0 (get_or arrows k d).1
      (k, h, get_or_default arrows k (get_or arrows k d) d h)
