-- All indexes in a catalog are those of its resources, and where it has no cycle none is told.
use Rattle.std.proofs.Common.{◌≡◌, ℕ, suc, ◌+◌, ◌<◌, ◌≤◌, Bool, true, false, ◌&&◌, if◌then◌else◌, List, [], ◌∷◌, ◌++◌}
use Rattle.std.proofs.Common.{length, map, All, inl, inr, refl, arith}
use Rattle.std.proofs.lemmas.List.Elements.{All-append, All-map, All-nil, All-cons}
use Rattle.std.proofs.lemmas.Bool.{ltb-true}
use Rattle.std.specs.List.{list_all}
use Rattle.std.specs.Prelude.{nat_lt}
use Rattle.rel_graph.proofs.CatalogLemmas.{between_below, related_below}
use Rattle.pp_values.specs.declared.reference.Reference.{Reference}
use Rattle.rel_graph.specs.CatalogPairs.{pairs_from, containment, relations, IsAcyclic}
use Rattle.rel_graph.specs.Graphs.{edge_pair}
use Rattle.rel_graph.specs.Pairs.{AllBelow}
use Rattle.res_core.specs.Catalogs.{are_containers, is_between, IsCatalog}
use Rattle.res_core.specs.declared.edge.Edge.{Edge}
use Rattle.res_core.specs.declared.held.Held.{Held}
use Rattle.agent_transaction.specs.Catalogs.{IsCycleTold}
use Rattle.agent_transaction.specs.Runs.{signalling}

first : (a b : Bool) → (a && b) ≡ true → a ≡ true
first true b e = refl
first false b e = absurd cc

second : (a b : Bool) → (a && b) ≡ true → b ≡ true
second true b e = e
second false b e = absurd cc

all_below : (count : ℕ) (is : List ℕ) → list_all (λ i. nat_lt i count) is ≡ true → All (λ i. i < count) is
all_below count [] e = All-nil (λ i. i < count)
all_below count (i ∷ is) e =
    All-cons (λ j. j < count) i is (ltb-true i count (first (nat_lt i count) (list_all (λ j. nat_lt j count) is) e))
    (all_below count is (second (nat_lt i count) (list_all (λ j. nat_lt j count) is) e))

pairs_below : (count i : ℕ) (hs : List Held) → list_all (λ h. are_containers count h.inside) hs ≡ true →
    i + length hs ≤ count → AllBelow (pairs_from i hs) count
pairs_below count i [] e few = All-nil (λ p. (p.0 < count) × (p.1 < count))
pairs_below count i (h ∷ hs) e few =
    let member : i < count = omega (arith, few) in
    let here = first (are_containers count h.inside) (list_all (λ g. are_containers count g.inside) hs) e in
    let rest = second (are_containers count h.inside) (list_all (λ g. are_containers count g.inside) hs) e in
    let each = all_below count h.inside (first (list_all (λ i. nat_lt i count) h.inside) _ here) in
    All-append (λ p. (p.0 < count) × (p.1 < count)) (map (λ c. (c, i)) h.inside) (pairs_from (suc i) hs)
    (All-map (λ p. (p.0 < count) × (p.1 < count)) (λ c. (c, i)) h.inside (λ k d less. (each k d less, member)))
    (pairs_below count (suc i) hs rest (omega (arith, few)))

module _ (hs : List Held) (es : List Edge) (kept : IsCatalog hs es) where
  pub containment_below : AllBelow (containment hs) (length hs)
  containment_below = pairs_below (length hs) 0 hs kept.contained (omega arith)

signals_below : (count : ℕ) (es : List Edge) → list_all (is_between count) es ≡ true → AllBelow (signalling es) count
signals_below count [] e = All-nil (λ p. (p.0 < count) × (p.1 < count))
signals_below count (x ∷ es) e =
    let here = between_below count x (first (is_between count x) (list_all (is_between count) es) e) in
    let rest = signals_below count es (second (is_between count x) (list_all (is_between count) es) e) in
    elim x.signal as (λ b. AllBelow ((if b then edge_pair x ∷ [] else []) ++ signalling es) count) [
      | true ↦ All-cons (λ p. (p.0 < count) × (p.1 < count)) (edge_pair x) (signalling es) here rest
      | false ↦ rest
    ]

module _ (hs : List Held) (es : List Edge) (kept : IsCatalog hs es) where
  pub relations_below : AllBelow (relations es) (length hs)
  relations_below = related_below (length hs) es kept.between

  pub signalling_below : AllBelow (signalling es) (length hs)
  signalling_below = signals_below (length hs) es kept.between

-- where there is no cycle none is told
pub free_of_cycles : (hs : List Held) (es : List Edge) (told : List Reference) → IsAcyclic hs es → IsCycleTold hs es told → ⊥
free_of_cycles hs es told free c = elim c.closes [
  | inl inside ↦ free.0 inside.start (inside.between, inside.closes)
  | inr before ↦ (let cycle = before.1 in free.1 cycle.start (cycle.between, cycle.closes))
]
