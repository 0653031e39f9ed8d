-- What a refusal says.
use Rattle.std.specs.Prelude.{ℕ, List, Result, MatchResult}
use Rattle.rel_graph.specs.Before.{Direct}
use Rattle.rel_graph.specs.Chains.{Paired}
use Rattle.rel_graph.specs.Cycles.{IsCycle}
use Rattle.rel_graph.specs.Graphs.{Relations, IsBuilt}
use Rattle.rel_graph.specs.Orders.{IsOrder}
use Rattle.rel_graph.specs.declared.stops.GraphStop.{GraphStop}
use Rattle.rel_graph.specs.declared.stops.GraphStop.TheVariants as graph
use Rattle.rel_graph.specs.declared.stops.OrderStop.{OrderStop}
use Rattle.rel_graph.specs.declared.stops.OrderStop.TheVariants as order

-- the cycle that is told is one of containment, (container, contained) by (container, contained)
abbrev pub IsContainedStop : (ℕ → ℕ → Type 0) → GraphStop → Type 0
IsContainedStop R (graph.Contains cycle) = IsCycle R cycle
IsContainedStop R graph.Memory = Unit {0}

abbrev pub IsOrderStop : (ℕ → ℕ → Type 0) → OrderStop → Type 0
IsOrderStop R (order.Cycle cycle) = IsCycle R cycle
IsOrderStop R order.Memory = Unit {0}

-- the graph of these, in which nothing stands inside itself, or else the cycle of containment
abbrev pub Builds : ℕ → List (ℕ × ℕ) → List (ℕ × ℕ) → Result Relations GraphStop → Type 0
Builds count containers edges result =
    MatchResult result (IsBuilt count containers edges) (IsContainedStop (Paired containers))

-- the order, or else the cycle in its way
abbrev pub Sorts : List (ℕ × ℕ) → List (ℕ × ℕ) → ℕ → Result (List ℕ) OrderStop → Type 0
Sorts containers edges count result =
    MatchResult result (IsOrder (Direct containers edges) count) (IsOrderStop (Direct containers edges))
