-- What a graph holds.
use Rattle.std.specs.Prelude.{◌≡◌, ℕ, Bool, true, false, List}
use Rattle.res_core.specs.declared.edge.Edge.{Edge}
use Rattle.rel_graph.specs.declared.containment.Containment.{Containment}
use Rattle.rel_graph.specs.Chains.{Paired}
use Rattle.rel_graph.specs.Cycles.{HasNoCycle}
use Rattle.rel_graph.specs.Before.{Direct, SomeBeforeItself}
use Rattle.rel_graph.specs.Pairs.{AllBelow}

abbrev pub containment_pair : Containment → ℕ × ℕ
containment_pair c = (c.container, c.member)

abbrev pub edge_pair : Edge → ℕ × ℕ
edge_pair e = (e.from, e.to)

-- so many resources, containment as pairs (container, member) and relationships as pairs (earlier, later)
pub record Relations : Type 0 where
  pub count : ℕ
  pub containers : List (ℕ × ℕ)
  pub edges : List (ℕ × ℕ)

-- nothing stands inside itself, and the flag tells whether some resource comes before itself
pub record IsCyclic (containers edges : List (ℕ × ℕ)) (cyclic : Bool) : Type 0 where
  pub contains : HasNoCycle (Paired containers)
  pub no : cyclic ≡ false → HasNoCycle (Direct containers edges)
  pub yes : cyclic ≡ true → SomeBeforeItself containers edges

-- what is known of the parts of a graph
pub record AreRelations (count : ℕ) (containers edges : List (ℕ × ℕ)) (cyclic : Bool) : Type 0 where
  pub below : AllBelow containers count
  pub edges_below : AllBelow edges count
  pub told : IsCyclic containers edges cyclic

-- the graph of these, in which nothing stands inside itself
abbrev pub IsBuilt : ℕ → List (ℕ × ℕ) → List (ℕ × ℕ) → Relations → Type 0
IsBuilt count containers edges g = (g ≡ record { count = count; containers = containers; edges = edges }) ×
    HasNoCycle (Paired containers)
