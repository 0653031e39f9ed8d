-- Containment alone, as relationships of resources that contain nothing.
use Rattle.std.proofs.Common.{◌≡◌, ℕ, List, [], ◌∷◌, inl, inr, refl, subst₂, arith}
use Rattle.rel_graph.specs.Chains.{Paired, Chain}
use Rattle.rel_graph.specs.Before.{Belongs, Direct}
use Rattle.rel_graph.specs.Cycles.{IsCycle, HasNoCycle}

none_paired : (a b : ℕ) → ¬ (Paired [] a b)
none_paired a b p = absurd (let h = p.1 in omega arith)

none_inside : (a b : ℕ) (between : List ℕ) → ¬ (Chain (Paired []) a between b)
none_inside a b [] h = none_paired a b h
none_inside a b (c ∷ between) h = none_paired a c h.0

alone : (r c : ℕ) → Belongs [] r c → c ≡ r
alone r c (inl e) = e
alone r c (inr h) = absurd (none_inside c r h.0 h.1)

paired_from : (pairs : List (ℕ × ℕ)) (r s : ℕ) → Direct [] pairs r s → Paired pairs r s
paired_from pairs r s d = subst₂ (λ a b. Paired pairs a b) (alone r d.earlier d.source) (alone s d.later d.target)
    d.edge

direct_from : (pairs : List (ℕ × ℕ)) (r s : ℕ) → Paired pairs r s → Direct [] pairs r s
direct_from pairs r s p = record { earlier = r; later = s; edge = p; source = inl refl; target = inl refl }

chain_same : (R S : ℕ → ℕ → Type 0) → ((a b : ℕ) → R a b → S a b) → (a b : ℕ) (between : List ℕ) →
    Chain R a between b → Chain S a between b
chain_same R S f a b [] h = f a b h
chain_same R S f a b (c ∷ between) h = (f a c h.0, chain_same R S f c b between h.1)

pub contained_cycle : (pairs : List (ℕ × ℕ)) (cycle : List ℕ) → IsCycle (Direct [] pairs) cycle →
    IsCycle (Paired pairs) cycle
contained_cycle pairs cycle c =
    let out = chain_same (Direct [] pairs) (Paired pairs) (paired_from pairs) in
    let back = chain_same (Paired pairs) (Direct [] pairs) (direct_from pairs) in
    record {
      start = c.start;
      between = c.between;
      is = c.is;
      closes = out c.start c.start c.between c.closes;
      first = λ q h. c.first q (h.0, back q q h.0 h.1);
      shortest = λ other h. c.shortest other (back c.start c.start other h);
      least = λ other h. c.least other (back c.start c.start other h);
    }

pub contained_none : (pairs : List (ℕ × ℕ)) → HasNoCycle (Direct [] pairs) → HasNoCycle (Paired pairs)
contained_none pairs none c h = none c (
  h.0,
  chain_same (Paired pairs) (Direct [] pairs) (direct_from pairs) c c h.0
      h.1,
)
