-- The edges of a catalog lie below the count of its resources; and a turn of a loop over these.
use Rattle.std.proofs.Common.{◌≡◌, ℕ, ◌+◌, ◌<◌, Bool, true, false, ◌&&◌, List, [], ◌∷◌, ◌++◌, length, map, drop, get_or}
use Rattle.std.proofs.Common.{refl, sym, ap, ap₂, ◌∙◌, add-one, append_assoc}
use Rattle.std.proofs.Math.Seq.{drop-cons}
use Rattle.std.proofs.lemmas.List.Elements.{All-nil, All-cons}
use Rattle.std.proofs.lemmas.Bool.{ltb-true}
use Rattle.std.specs.List.{list_all}
use Rattle.std.specs.Prelude.{nat_lt}
use Rattle.rel_graph.specs.CatalogPairs.{pairs_from, relations}
use Rattle.rel_graph.specs.Graphs.{edge_pair}
use Rattle.rel_graph.specs.Pairs.{AllBelow}
use Rattle.res_core.specs.Catalogs.{is_between}
use Rattle.res_core.specs.declared.edge.Edge.{Edge}
use Rattle.res_core.specs.declared.held.Held.{Held}

first : (a b : Bool) → (a && b) ≡ true → a ≡ true
first true b e = refl
first false b e = e

second : (a b : Bool) → (a && b) ≡ true → b ≡ true
second true b e = e
second false b e = absurd cc

pub between_below : (count : ℕ) (e : Edge) → is_between count e ≡ true → (e.from < count) × (e.to < count)
between_below count e is = (
  ltb-true e.from count (first (nat_lt e.from count) (nat_lt e.to count) is),
  ltb-true e.to count (second (nat_lt e.from count) (nat_lt e.to count) is),
)

pub related_below : (count : ℕ) (es : List Edge) → list_all (is_between count) es ≡ true → AllBelow (relations es) count
related_below count [] e = All-nil (λ p. (p.0 < count) × (p.1 < count))
related_below count (x ∷ es) e =
    All-cons (λ p. (p.0 < count) × (p.1 < count)) (edge_pair x) (relations es)
    (between_below count x (first (is_between count x) (list_all (is_between count) es) e))
    (related_below count es (second (is_between count x) (list_all (is_between count) es) e))

-- the containers of one more resource were put behind the others
pub pairs_turn : (hs : List Held) (i : ℕ) (h : Held) (is : List ℕ) (old new whole : List (ℕ × ℕ)) → i < length hs →
    h ≡ get_or hs i h → is ≡ h.inside → new ≡ old ++ map (λ c. (c, i)) is →
    old ++ pairs_from i (drop i hs) ≡ whole → new ++ pairs_from (i + 1) (drop (i + 1) hs) ≡ whole
pairs_turn hs i h is old new whole less here same put all =
    let next : drop i hs ≡ h ∷ drop (i + 1) hs =
    drop-cons hs i h less ∙ ap₂ (λ x j. x ∷ drop j hs) (sym here) (sym (add-one i)) in
    ap (λ xs. xs ++ pairs_from (i + 1) (drop (i + 1) hs)) put
    ∙ append_assoc old (map (λ c. (c, i)) is) (pairs_from (i + 1) (drop (i + 1) hs))
    ∙ ap₂ (λ us j. old ++ (map (λ c. (c, i)) us ++ pairs_from j (drop (i + 1) hs))) same (add-one i)
    ∙ sym (ap (λ xs. old ++ pairs_from i xs) next)
    ∙ all
