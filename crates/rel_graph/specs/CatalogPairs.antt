-- What the resources and the edges of a catalog say of their indexes, as pairs.
use Rattle.std.specs.Prelude.{ℕ, suc, List, [], ◌∷◌, ◌++◌, map}
use Rattle.res_core.specs.declared.edge.Edge.{Edge}
use Rattle.res_core.specs.declared.held.Held.{Held}
use Rattle.rel_graph.specs.Before.{Direct}
use Rattle.rel_graph.specs.Chains.{Paired}
use Rattle.rel_graph.specs.Cycles.{HasNoCycle}
use Rattle.rel_graph.specs.Graphs.{edge_pair}

-- what contains what, as pairs (container, member): each resource of these, from this index on, in what it is inside
abbrev pub pairs_from : ℕ → List Held → List (ℕ × ℕ)
pairs_from i [] = []
pairs_from i (h ∷ hs) = map (λ c. (c, i)) h.inside ++ pairs_from (suc i) hs

abbrev pub containment : List Held → List (ℕ × ℕ)
containment hs = pairs_from 0 hs

-- what comes before what, as pairs (earlier, later)
abbrev pub relations : List Edge → List (ℕ × ℕ)
relations = map edge_pair

-- nothing stands inside itself, and nothing comes before itself
abbrev pub IsAcyclic : List Held → List Edge → Type 0
IsAcyclic resources edges =
    HasNoCycle (Paired (containment resources)) × HasNoCycle (Direct (containment resources) (relations edges))
