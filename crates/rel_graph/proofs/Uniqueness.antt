-- There is one order, and one cycle that is told.
use Rattle.std.proofs.Common.{◌≡◌, ℕ, zero, suc, ◌≤◌, List, [], ◌∷◌, ◌++◌, length, take, slice_index, Contains, inl, inr, refl, sym, subst, ap₂, ◌∙◌, arith, le_antisymm, take-suc, take_all}
use Rattle.std.proofs.lemmas.Bool.{cases_lt}
use Rattle.rel_graph.specs.Before.{Direct}
use Rattle.rel_graph.specs.Chains.{Chain}
use Rattle.rel_graph.specs.Cycles.{IsCycle, NoLater}
use Rattle.rel_graph.specs.Orders.{IsNext, IsOrder}
use Rattle.rel_graph.specs.Laws.{OneOrder, OneCycle, OrderHasNoCycle}
use Rattle.rel_graph.proofs.Below.{before_below}
use Rattle.rel_graph.proofs.Ordering.{order_acyclic}

next_same : (R : ℕ → ℕ → Type 0) (count : ℕ) (listed : List ℕ) (x y : ℕ) → IsNext R count listed x →
    IsNext R count listed y → x ≡ y
next_same R count listed x y n m = le_antisymm (n.least y m.below m.unlisted m.ready)
    (m.least x n.below n.unlisted n.ready)

module _ (R : ℕ → ℕ → Type 0) (count : ℕ) where
  same_front : (xs ys : List ℕ) → IsOrder R count xs → IsOrder R count ys → (k : ℕ) → k ≤ length xs → k ≤ length ys →
      take k xs ≡ take k ys
  same_front xs ys o p zero h l = refl
  same_front xs ys o p (suc k) h l =
      let front = same_front xs ys o p k (omega arith) (omega arith) in
      let here = next_same R count (take k ys) (slice_index xs k) (slice_index ys k)
      (subst (λ t. IsNext R count t (slice_index xs k)) front (o.each k (omega arith))) (p.each k (omega arith)) in
      take-suc xs k 0 (omega arith) ∙ ap₂ (λ t x. t ++ x ∷ []) front here ∙ sym (take-suc ys k 0 (omega arith))

  not_longer : (xs ys : List ℕ) → IsOrder R count xs → IsOrder R count ys → length ys ≤ length xs
  not_longer xs ys o p = elim (cases_lt (length xs) (length ys)) [
    | inl less ↦
        let next = p.each (length xs) less in
        let front : take (length xs) ys ≡ xs = sym (same_front xs ys o p (length xs) (omega arith) (omega arith)) ∙
        take_all (length xs) xs (omega arith) in
        absurd (next.unlisted (subst (λ t. Contains t (slice_index ys (length xs))) (sym front)
        (o.all (slice_index ys (length xs)) next.below)))
    | inr more ↦ more
  ]

  one_order : (xs ys : List ℕ) → IsOrder R count xs → IsOrder R count ys → xs ≡ ys
  one_order xs ys o p =
      let a = not_longer xs ys o p in
      let b = not_longer ys xs p o in
      sym (take_all (length xs) xs (omega arith)) ∙ same_front xs ys o p (length xs) (omega arith) (omega (arith, b))
      ∙ take_all (length xs) ys (omega (arith, a))

no_later_same : (xs ys : List ℕ) → length xs ≡ length ys → NoLater xs ys → NoLater ys xs → xs ≡ ys
no_later_same [] [] e a b = refl
no_later_same [] (y ∷ ys) e a b = absurd (omega arith)
no_later_same (x ∷ xs) [] e a b = absurd (omega arith)
no_later_same (x ∷ xs) (y ∷ ys) e (inl a) (inl b) = absurd (omega arith)
no_later_same (x ∷ xs) (y ∷ ys) e (inl a) (inr b) = absurd (let f = b.0 in omega arith)
no_later_same (x ∷ xs) (y ∷ ys) e (inr a) (inl b) = absurd (let f = a.0 in omega arith)
no_later_same (x ∷ xs) (y ∷ ys) e (inr a) (inr b) = ap₂ (λ z zs. z ∷ zs) a.0 (no_later_same xs ys (omega arith) a.1 b.1)

one_cycle : (R : ℕ → ℕ → Type 0) (xs ys : List ℕ) → IsCycle R xs → IsCycle R ys → xs ≡ ys
one_cycle R xs ys c d =
    let same : c.start ≡ d.start = le_antisymm (c.first d.start (d.between, d.closes))
    (d.first c.start (c.between, c.closes)) in
    let closes : Chain R d.start c.between d.start = subst (λ s. Chain R s c.between s) same c.closes in
    let closes' : Chain R c.start d.between c.start = subst (λ s. Chain R s d.between s) (sym same) d.closes in
    let long : length c.between ≡ length d.between = le_antisymm (c.shortest d.between closes')
    (d.shortest c.between closes) in
    c.is ∙ ap₂ (λ s b. s ∷ b) same (no_later_same c.between d.between long (c.least d.between closes' (sym long))
    (d.least c.between closes long)) ∙ sym d.is

pub one_order_law : OneOrder
one_order_law containers edges count xs ys = one_order (Direct containers edges) count xs ys

pub one_cycle_law : OneCycle
one_cycle_law containers edges xs ys = one_cycle (Direct containers edges) xs ys

pub order_law : OrderHasNoCycle
order_law containers edges count xs below edges_below o r b =
    order_acyclic (Direct containers edges) count xs o r (before_below containers edges count r r below edges_below b) b
