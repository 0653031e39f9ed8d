-- The least of the shortest chains, from its front on.
use Rattle.std.proofs.Common.{◌≡◌, ℕ, suc, ◌≤◌, List, [], ◌∷◌, ◌++◌, length, Option, Some, None, append_assoc, append-nil, inl, inr, refl, sym, subst, ap, ◌∙◌, arith}
use Rattle.std.proofs.lemmas.Bool.{cases_lt}
use Rattle.rel_graph.specs.Chains.{Chain, Closure}
use Rattle.rel_graph.specs.Cycles.{IsCycle, NoLater, NoneBelow}
use Rattle.rel_graph.specs.Distances.{distance, AreDistances, IsNear, IsBest, IsStep}

some_same : (o : Option ℕ) (j k : ℕ) → o ≡ Some j → o ≡ Some k → j ≡ k
some_same o j k e f = cc

none≢some : (o : Option ℕ) (k : ℕ) → o ≡ None → o ≡ Some k → ⊥
none≢some o k e f = cc

suc_same : (j k : ℕ) → suc j ≡ suc k → j ≡ k
suc_same j k e = omega arith

-- the cycle so far, which whatever is best from here on makes the best
pub record Tracing (R : ℕ → ℕ → Type 0) (goal : ℕ) (numbers : List (Option ℕ)) (total at left : ℕ) (cycle : List ℕ)
    : Type 0 where
  pub between : List ℕ
  pub is : cycle ≡ goal ∷ between
  pub far : distance numbers at ≡ Some left
  pub near : left ≤ total
  pub best : (rest : List ℕ) → IsBest R goal at left rest → IsBest R goal goal total (between ++ rest)

module _ (R : ℕ → ℕ → Type 0) (goal : ℕ) (numbers : List (Option ℕ)) (d : AreDistances R goal numbers) (total : ℕ)
    (has : distance numbers goal ≡ Some total) where
  is_near : (n : ℕ) → n ≤ total → IsNear numbers goal n
  is_near n h k e = let same = some_same (distance numbers goal) k total e has in omega (arith, same, h)

  -- what follows on a shortest chain is one nearer
  nearer : (a y left : ℕ) (rest : List ℕ) → distance numbers a ≡ Some (suc left) → suc left ≤ total → R a y →
      Chain R y rest goal →
      length rest ≡ left →
      distance numbers y ≡ Some left
  nearer a y left rest far near r h long =
      let k = d.least y rest h (is_near (length rest) (omega (arith, long, near))) in
      let s = d.sound y k.0 k.1 in
      let le = k.2 in
      let z = s.1 in
      let b = d.least a (y ∷ s.0) (r, s.2) (is_near (length (y ∷ s.0)) (omega (arith, z, le, long, near))) in
      let e : suc left ≡ b.0 = some_same (distance numbers a) (suc left) b.0 far b.1 in
      let same : k.0 ≡ left = (let q = b.2 in omega (arith, e, le, q, z, long)) in
      k.1 ∙ ap (λ n. Some n) same

  step_from : (a left : ℕ) (between : List ℕ) → distance numbers a ≡ Some (suc left) → suc left ≤ total →
      length between ≡ suc left →
      Chain R a between goal →
      (x : ℕ) × R a x × (distance numbers x ≡ Some left)
  step_from a left [] far near long h = absurd (omega arith)
  step_from a left (x ∷ rest) far near long h =
      (x, h.0, nearer a x left rest far near h.0 h.1 (suc_same (length rest) left long))

  pub step_exists : (a left : ℕ) → distance numbers a ≡ Some (suc left) → suc left ≤ total →
      (x : ℕ) × R a x × (distance numbers x ≡ Some left)
  step_exists a left far near = let s = d.sound a (suc left) far in step_from a left s.0 far near s.1 s.2

  least_more : (a x left : ℕ) (rest : List ℕ) → distance numbers a ≡ Some (suc left) → suc left ≤ total →
      IsStep R numbers a left x →
      IsBest R goal x left rest →
      (other : List ℕ) → Chain R a other goal → length other ≡ suc left → NoLater (x ∷ rest) other
  least_more a x left rest far near step best [] h long = absurd (omega arith)
  least_more a x left rest far near step best (y ∷ ys) h long =
      let e = suc_same (length ys) left long in
      let le = step.least y h.0 (nearer a y left ys far near h.0 h.1 e) in
      elim (cases_lt x y) [
        | inl less ↦ inl less
        | inr more ↦
            let same : x ≡ y = omega (arith, le, more) in
            inr (same, best.least ys (subst (λ z. Chain R z ys goal) (sym same) h.1) e)
      ]

  pub best_more : (a x left : ℕ) (rest : List ℕ) → distance numbers a ≡ Some (suc left) → suc left ≤ total →
      IsStep R numbers a left x →
      IsBest R goal x left rest →
      IsBest R goal a (suc left) (x ∷ rest)
  best_more a x left rest far near step best = record {
    chain = (step.direct, best.chain);
    long = ap suc best.long;
    least = least_more a x left rest far near step best;
  }

  chain_none : (a : ℕ) (between : List ℕ) → length between ≡ 0 → Chain R a between goal → R a goal
  chain_none a [] e h = h
  chain_none a (x ∷ between) e h = absurd (omega arith)

  no_later_none : (other : List ℕ) → NoLater [] other
  no_later_none [] = tt
  no_later_none (x ∷ xs) = tt

  pub best_end : (a : ℕ) → distance numbers a ≡ Some 0 → IsBest R goal a 0 []
  best_end a far = record {
    chain = let s = d.sound a 0 far in chain_none a s.0 s.1 s.2;
    long = refl;
    least = λ other _ _. no_later_none other;
  }

  pub tracing_start : Tracing R goal numbers total goal total (goal ∷ [])
  tracing_start = record { between = []; is = refl; far = has; near = omega arith; best = λ rest b. b }

  pub tracing_more : (at left x : ℕ) (cycle : List ℕ) → Tracing R goal numbers total at (suc left) cycle →
      IsStep R numbers at left x →
      Tracing R goal numbers total x left (cycle ++ x ∷ [])
  tracing_more at left x cycle t step = record {
    between = t.between ++ x ∷ [];
    is = ap (λ c. c ++ x ∷ []) t.is;
    far = step.far;
    near = let n = t.near in omega (arith, n);
    best = λ rest b. subst (λ c. IsBest R goal goal total c) (sym (append_assoc t.between (x ∷ []) rest))
        (t.best (x ∷ rest) (best_more at x left rest t.far t.near step b));
  }

  pub tracing_end : (at : ℕ) (cycle : List ℕ) → Tracing R goal numbers total at 0 cycle →
      (rest : List ℕ) × (cycle ≡ goal ∷ rest) × IsBest R goal goal total rest
  tracing_end at cycle t =
      (t.between, t.is, subst (λ c. IsBest R goal goal total c) (append-nil t.between) (t.best [] (best_end at t.far)))

  pub is_cycle : (cycle rest : List ℕ) → NoneBelow R goal → cycle ≡ goal ∷ rest → IsBest R goal goal total rest →
      IsCycle R cycle
  is_cycle cycle rest none e b = record {
    start = goal;
    between = rest;
    is = e;
    closes = b.chain;
    first = λ q h. elim (cases_lt q goal) [
      | inl less ↦ absurd (none q less h)
      | inr more ↦ more
    ];
    shortest = λ other h. let long = b.long in elim (cases_lt (length other) total) [
      | inl less ↦
          let k = d.least goal other h (is_near (length other) (omega (arith, less))) in
          let same = some_same (distance numbers goal) k.0 total k.1 has in
          let le = k.2 in
          omega (arith, same, le, long)
      | inr more ↦ omega (arith, more, long)
    ];
    least = λ other h l. b.least other h (l ∙ b.long);
  }

-- where the goal has no distance it does not come before itself
pub no_cycle_here : (R : ℕ → ℕ → Type 0) (goal : ℕ) (numbers : List (Option ℕ)) → AreDistances R goal numbers →
    distance numbers goal ≡ None → ¬ (Closure R goal goal)
no_cycle_here R goal numbers d none h =
    let k = d.least goal h.0 h.1 (λ n e. absurd (none≢some (distance numbers goal) n none e)) in
    none≢some (distance numbers goal) k.0 none k.1
