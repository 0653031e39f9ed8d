-- What comes before something ends no later than it begins.
use Rattle.std.proofs.Common.{ℕ, ◌+◌, ◌<◌, ◌≤◌, List, [], ◌∷◌, inl, inr, length, get_or, sym, subst, arith}
use Rattle.std.specs.List.{All}
use Rattle.std.proofs.lemmas.List.{get_or_default, get_or_past}
use Rattle.std.proofs.lemmas.List.Elements.{All-contains}
use Rattle.rel_graph.specs.Before.{Belongs, Direct}
use Rattle.rel_graph.specs.Chains.{Paired, Chain, Closure}
use Rattle.rel_graph.specs.Cycles.{HasNoCycle}
use Rattle.rel_graph.specs.Spans.{span, LiesWithin, ComesLater, IsLine}

-- a fact on each pair, read with any default
pub each_pair : (P : ℕ × ℕ → Type 0) (ps : List (ℕ × ℕ)) (i : ℕ) → length ps ≤ i →
    ((k : ℕ) → k < i → P (get_or ps k (0, 0))) → All P ps
each_pair P ps i end all k d h = subst P (get_or_default ps k (0, 0) d h) (all k (omega (arith, h, end)))

-- an index of no resource begins and ends at 0
no_span : (spans : List (ℕ × ℕ)) (x : ℕ) → All (λ s. s.0 ≤ s.1) spans → (span spans x).0 ≤ (span spans x).1
no_span spans x all =
    let among : x < length spans → (span spans x).0 ≤ (span spans x).1 = λ h. all x (0, 0) h in
    let past : length spans ≤ x → (span spans x).0 ≤ (span spans x).1 =
    λ h. subst (λ s. s.0 ≤ s.1) (sym (get_or_past spans x (0, 0) h)) (omega arith) in
    grind (arith, among, past)

module _ (gap : ℕ) (spans containers edges : List (ℕ × ℕ)) (line : IsLine gap spans containers edges) where
  inner : (a b : ℕ) → Paired containers a b → LiesWithin gap spans (a, b)
  inner a b p = All-contains (LiesWithin gap spans) containers (a, b) line.1 p

  chain_within : (a b : ℕ) (between : List ℕ) → Chain (Paired containers) a between b → LiesWithin gap spans (a, b)
  chain_within a b [] p = inner a b p
  chain_within a b (c ∷ between) p =
      let x = inner a c p.0 in let y = chain_within c b between p.1 in (omega (arith, x.0, y.0), omega (arith, x.1, y.1))

  belongs_within : (r c : ℕ) → Belongs containers r c →
      ((span spans c).0 ≤ (span spans r).0) × ((span spans r).1 ≤ (span spans c).1)
  belongs_within r c (inl e) =
      subst (λ x. ((span spans c).0 ≤ (span spans x).0) × ((span spans x).1 ≤ (span spans c).1)) e
      (omega arith, omega arith)
  belongs_within r c (inr h) = let x = chain_within c r h.0 h.1 in (omega (arith, x.0), x.1)

  direct_later : (r s : ℕ) → Direct containers edges r s → (span spans r).1 + gap ≤ (span spans s).0
  direct_later r s d =
      let x = belongs_within r d.earlier d.source in
      let y = All-contains (ComesLater gap spans) edges (d.earlier, d.later) line.2 d.edge in
      let z = belongs_within s d.later d.target in
      omega (arith, x.1, y, z.0)

  before_later : (r s : ℕ) (between : List ℕ) → Chain (Direct containers edges) r between s →
      (span spans r).1 + gap ≤ (span spans s).0
  before_later r s [] h = direct_later r s h
  before_later r s (c ∷ between) h =
      let x = direct_later r c h.0 in let y = before_later c s between h.1 in
      let z = no_span spans c line.0 in omega (arith, x, y, z)

  -- what begins before it ends does not come before itself
  pub apart : (q : ℕ) → (span spans q).0 < (span spans q).1 → ¬ (Closure (Direct containers edges) q q)
  apart q less h = let x = before_later q q h.0 h.1 in omega (arith, x, less)

-- with a gap there is no cycle
pub no_inside : (spans containers edges : List (ℕ × ℕ)) → IsLine 1 spans containers edges →
    HasNoCycle (Paired containers)
no_inside spans containers edges line c h =
    let x = chain_within 1 spans containers edges line c c h.0 h.1 in omega (arith, x.0)

pub no_before : (spans containers edges : List (ℕ × ℕ)) → IsLine 1 spans containers edges →
    HasNoCycle (Direct containers edges)
no_before spans containers edges line r h =
    let x = before_later 1 spans containers edges line r r h.0 h.1 in
    let z = no_span spans r line.0 in omega (arith, x, z)
