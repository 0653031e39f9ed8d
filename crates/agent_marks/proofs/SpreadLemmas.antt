-- Marks as they spread along arrows.
use Rattle.std.proofs.Common.{◌≡◌, ◌⊎◌, ◌↔◌, ℕ, zero, suc, ◌<◌, Bool, true, false, cond, List, [], ◌∷◌, ◌++◌, length, get_or, set, Contains, inl, inr, refl, sym, subst, ap, ◌∙◌, arith, length-append, length-set}
use Rattle.std.specs.Prelude.{nat_eq}
use Rattle.std.proofs.lemmas.Bool.Decides.{eqb_tells}
use Rattle.std.proofs.lemmas.List.Elements.{Contains-push, Contains-push_cases, Contains-append_left}
use Rattle.rel_graph.specs.Before.{Belongs}
use Rattle.rel_graph.specs.Chains.{Paired}
use Rattle.rel_graph.specs.Marks.{Marked}
use Rattle.rel_graph.proofs.Chains.{belongs_more, belongs_carries}
use Rattle.rel_graph.proofs.Marking.{marked_within, marked_set_here, marked_set_keeps, marked_set_cases, fewer_unmarked}
use Rattle.agent_marks.specs.Nodes.{targets, Closed, Pushing, Reaching}

none_there : {X : Type 0} (x : X) → Contains [] x → ⊥
none_there x c = let h = c.1 in omega (arith, h)

-- ---- one target after another

pub pushing_none : (marks : List Bool) (stack : List ℕ) → Pushing marks stack [] marks stack
pushing_none marks stack = record {
  long = refl;
  keeps = λ v m. m;
  all = λ v c. absurd (none_there v c);
  sound = λ v m. inl m;
  stacked = λ v m. inl m;
  kept = λ v c. c;
  from = λ v c. inl c;
  fewer = omega arith;
}

module _ (old : List Bool) (before ts : List ℕ) (marks : List Bool) (stack : List ℕ) (node : ℕ) (s : Pushing old before ts marks stack) where
  more : (v : ℕ) → Contains ts v → Contains (ts ++ node ∷ []) v
  more v c = Contains-append_left ts (node ∷ []) v c

  pub pushing_kept : Marked marks node → Pushing old before (ts ++ node ∷ []) marks stack
  pushing_kept m = record {
    long = s.long;
    keeps = s.keeps;
    all = λ v c. elim (Contains-push_cases ts node v c) [ inl p ↦ s.all v p | inr e ↦ subst (Marked marks) e m ];
    sound = λ v k. elim (s.sound v k) [ inl o ↦ inl o | inr c ↦ inr (more v c) ];
    stacked = s.stacked;
    kept = s.kept;
    from = λ v c. elim (s.from v c) [ inl b ↦ inl b | inr t ↦ inr (more v t) ];
    fewer = s.fewer;
  }

  pub pushing_new : node < length marks → get_or marks node false ≡ false →
      Pushing old before (ts ++ node ∷ []) (set marks node true) (stack ++ node ∷ [])
  pushing_new within unmarked = record {
    long = length-set marks node true ∙ s.long;
    keeps = λ v m. marked_set_keeps marks node v within (s.keeps v m);
    all = λ v c. elim (Contains-push_cases ts node v c) [
      | inl p ↦ marked_set_keeps marks node v within (s.all v p)
      | inr e ↦ subst (Marked (set marks node true)) e (marked_set_here marks node within)
    ];
    sound = λ v m. elim (marked_set_cases marks node v m) [
      | inl e ↦ inr (subst (λ x. Contains (ts ++ node ∷ []) x) e (Contains-push ts node))
      | inr k ↦ elim (s.sound v k) [ inl o ↦ inl o | inr c ↦ inr (more v c) ]
    ];
    stacked = λ v m. elim (marked_set_cases marks node v m) [
      | inl e ↦ inr (subst (λ x. Contains (stack ++ node ∷ []) x) e (Contains-push stack node))
      | inr k ↦ elim (s.stacked v k) [ inl o ↦ inl o | inr c ↦ inr (Contains-append_left stack (node ∷ []) v c) ]
    ];
    kept = λ v c. Contains-append_left stack (node ∷ []) v (s.kept v c);
    from = λ v c. elim (Contains-push_cases stack node v c) [
      | inl p ↦ elim (s.from v p) [ inl b ↦ inl b | inr t ↦ inr (more v t) ]
      | inr e ↦ inr (subst (λ x. Contains (ts ++ node ∷ []) x) e (Contains-push ts node))
    ];
    fewer = let a = s.fewer in let b = length-append stack (node ∷ []) in let d = fewer_unmarked marks node within unmarked in omega (arith, a, b, d);
  }

-- ---- the targets of a node are what its arrows lead to

contains_front : (t : ℕ) (ts : List ℕ) → Contains (t ∷ ts) t
contains_front t ts = (0, omega arith, refl)

contains_behind : {X : Type 0} (t v : X) (ts : List X) → Contains ts v → Contains (t ∷ ts) v
contains_behind t v ts (k, h, e) = (suc k, omega (arith, h), e)

module _ (u v : ℕ) where
  front_paired : (a : ℕ × ℕ) (arrows : List (ℕ × ℕ)) → u ≡ a.0 → Contains (a.1 ∷ targets arrows u) v →
      (Contains (targets arrows u) v → Paired arrows u v) → Paired (a ∷ arrows) u v
  front_paired a arrows same (zero, h, e) rest = (0, omega arith, λ i. (sym same i, e i))
  front_paired a arrows same (suc k, h, e) rest = contains_behind a (u, v) arrows (rest (k, omega (arith, h), e))

  pub targets_paired : (arrows : List (ℕ × ℕ)) → Contains (targets arrows u) v → Paired arrows u v
  targets_paired [] c = absurd (none_there v c)
  targets_paired (a ∷ arrows) c = elim (eqb_tells u a.0) [
    | inl same ↦ front_paired a arrows same.1
        (subst (λ b. Contains (cond b (a.1 ∷ targets arrows u) (targets arrows u)) v) same.0 c) (targets_paired arrows)
    | inr other ↦ contains_behind a (u, v) arrows
        (targets_paired arrows (subst (λ b. Contains (cond b (a.1 ∷ targets arrows u) (targets arrows u)) v) other.0 c))
  ]

  pub targets_have : (arrows : List (ℕ × ℕ)) → Paired arrows u v → Contains (targets arrows u) v
  targets_have [] p = absurd (none_there (u, v) p)
  targets_have (a ∷ arrows) (zero, h, e) = elim (eqb_tells u a.0) [
    | inl same ↦ subst (λ b. Contains (cond b (a.1 ∷ targets arrows u) (targets arrows u)) v) (sym same.0)
        (0, omega arith, ap (λ q. q.1) e)
    | inr other ↦ absurd (other.1 (sym (ap (λ q. q.0) e)))
  ]
  targets_have (a ∷ arrows) (suc k, h, e) =
      let rest = targets_have arrows (k, omega (arith, h), e) in
      elim (nat_eq u a.0) as (λ b. Contains (cond b (a.1 ∷ targets arrows u) (targets arrows u)) v) [
        | true ↦ contains_behind a.1 v (targets arrows u) rest
        | false ↦ rest
      ]

-- ---- one node of the stack after another

module _ (arrows : List (ℕ × ℕ)) (old : List Bool) (from : ℕ) (closed : Closed arrows old) where
  pub reaching_start : (marks : List Bool) (stack : List ℕ) → Pushing old [] (from ∷ []) marks stack →
      Reaching arrows old from marks stack
  reaching_start marks stack p = record {
    long = p.long;
    keeps = p.keeps;
    start = p.all from (contains_front from []);
    sound = λ v m. elim (p.sound v m) [
      | inl o ↦ inl o
      | inr c ↦ elim (Contains-push_cases [] from v c) [ inl q ↦ absurd (none_there v q) | inr e ↦ inr (inl e) ]
    ];
    open_ends = λ u v q m. elim (p.stacked u m) [ inl o ↦ inl (p.keeps v (closed u v q o)) | inr c ↦ inr c ];
    known = λ u c. elim (p.from u c) [ inl b ↦ absurd (none_there u b) | inr t ↦ p.all u t ];
  }

  pub reaching_more : (marks : List Bool) (stack rest : List ℕ) (node : ℕ) (after : List Bool) (stacked : List ℕ) →
      Reaching arrows old from marks stack → stack ≡ rest ++ node ∷ [] →
      Pushing marks rest (targets arrows node) after stacked → Reaching arrows old from after stacked
  reaching_more marks stack rest node after stacked r is p =
      let top : Marked marks node = r.known node (subst (λ l. Contains l node) (sym is) (Contains-push rest node)) in
      record {
        long = p.long ∙ r.long;
        keeps = λ v m. p.keeps v (r.keeps v m);
        start = p.keeps from r.start;
        sound = λ v m. elim (p.sound v m) [
          | inl o ↦ r.sound v o
          | inr c ↦ elim (r.sound node top) [
            | inl o ↦ inl (closed node v (targets_paired node v arrows c) o)
            | inr b ↦ inr (belongs_more arrows node v from b (targets_paired node v arrows c))
          ]
        ];
        open_ends = λ u v q m. elim (p.stacked u m) [
          | inl o ↦ elim (r.open_ends u v q o) [
            | inl k ↦ inl (p.keeps v k)
            | inr c ↦ elim (Contains-push_cases rest node u (subst (λ l. Contains l u) is c)) [
              | inl k ↦ inr (p.kept u k)
              | inr e ↦ inl (p.all v (targets_have node v arrows (subst (λ x. Paired arrows x v) (sym e) q)))
            ]
          ]
          | inr c ↦ inr c
        ];
        known = λ u c. elim (p.from u c) [
          | inl q ↦ p.keeps u (r.known u (subst (λ l. Contains l u) (sym is) (Contains-append_left rest (node ∷ []) u q)))
          | inr t ↦ p.all u t
        ];
      }

  module _ (marks : List Bool) (r : Reaching arrows old from marks []) where
    pub reached_closed : Closed arrows marks
    reached_closed u v p m = elim (r.open_ends u v p m) [ inl k ↦ k | inr c ↦ absurd (none_there u c) ]

    pub reached_marked : (v : ℕ) → Marked marks v ↔ (Marked old v ⊎ Belongs arrows v from)
    reached_marked v = (
      r.sound v,
      λ k. elim k [
        | inl o ↦ r.keeps v o
        | inr b ↦ belongs_carries arrows (Marked marks) reached_closed v from b r.start
      ],
    )

-- ---- the top of the stack, and its end

pub top_within : (arrows : List (ℕ × ℕ)) (old : List Bool) (from : ℕ) (marks : List Bool) (stack rest : List ℕ) (node : ℕ) →
    Reaching arrows old from marks stack → stack ≡ rest ++ node ∷ [] → node < length old
top_within arrows old from marks stack rest node r is =
    let within = marked_within marks node (r.known node (subst (λ l. Contains l node) (sym is) (Contains-push rest node))) in
    let e = r.long in omega (arith, within, e)

pub none_left : (xs : List ℕ) → length xs ≡ 0 → xs ≡ []
none_left [] e = refl
none_left (x ∷ xs) e = absurd (omega (arith, e))
