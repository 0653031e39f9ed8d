-- Laws of orders and cycles.
use Rattle.std.specs.Prelude.{◌≡◌, ◌⊎◌, ℕ, ◌≤◌, List, length, Option, None, Some, MatchOption}
use Rattle.rel_graph.specs.Before.{Direct}
use Rattle.rel_graph.specs.Chains.{Paired, Chain}
use Rattle.rel_graph.specs.FirstCycles.{is_paired, way_to, cycle_in}
use Rattle.rel_graph.specs.Orders.{IsOrder}
use Rattle.rel_graph.specs.Cycles.{IsCycle, HasNoCycle, NoLater}
use Rattle.rel_graph.specs.Pairs.{AllBelow}

-- there is at most one order
abbrev pub OneOrder : Type 0
OneOrder = (containers edges : List (ℕ × ℕ)) (count : ℕ) (xs ys : List ℕ) →
    IsOrder (Direct containers edges) count xs → IsOrder (Direct containers edges) count ys → xs ≡ ys

-- at most one cycle is told
abbrev pub OneCycle : Type 0
OneCycle = (containers edges : List (ℕ × ℕ)) (xs ys : List ℕ) → IsCycle (Direct containers edges) xs →
    IsCycle (Direct containers edges) ys → xs ≡ ys

-- where there is an order, no resource comes before itself
abbrev pub OrderHasNoCycle : Type 0
OrderHasNoCycle = (containers edges : List (ℕ × ℕ)) (count : ℕ) (xs : List ℕ) → AllBelow containers count →
    AllBelow edges count →
    IsOrder (Direct containers edges) count xs → HasNoCycle (Direct containers edges)

-- and where none does, there is one
abbrev pub SomeOrder : Type 0
SomeOrder = (containers edges : List (ℕ × ℕ)) (count : ℕ) → AllBelow containers count → AllBelow edges count →
    HasNoCycle (Direct containers edges) → (order : List ℕ) × IsOrder (Direct containers edges) count order

-- what is told of these: nothing stands inside itself or comes before itself, or else the cycle of containment, or else
-- that of what comes before what
abbrev pub IsCycleIn : List (ℕ × ℕ) → List (ℕ × ℕ) → Option (List ℕ) → Type 0
IsCycleIn containers edges None = HasNoCycle (Paired containers) × HasNoCycle (Direct containers edges)
IsCycleIn containers edges (Some cycle) =
    IsCycle (Paired containers) cycle ⊎ (HasNoCycle (Paired containers) × IsCycle (Direct containers edges) cycle)

-- The cycle that is computed is the one that is told.
abbrev pub CycleInIsTheCycle : Type 0
CycleInIsTheCycle = (containers edges : List (ℕ × ℕ)) (count : ℕ) → AllBelow containers count → AllBelow edges count →
    IsCycleIn containers edges (cycle_in containers edges count)

-- Its count is one below which all indexes are: a greater one finds the same.
abbrev pub CycleOfAnyCount : Type 0
CycleOfAnyCount = (containers edges : List (ℕ × ℕ)) (count more : ℕ) → AllBelow containers count →
    AllBelow edges count → count ≤ more → cycle_in containers edges more ≡ cycle_in containers edges count

-- of the ways to the goal that have the fewest indexes between, this is the least by them
pub record IsWay (R : ℕ → ℕ → Type 0) (goal a : ℕ) (way : List ℕ) : Type 0 where
  pub chain : Chain R a way goal
  pub shortest : (other : List ℕ) → Chain R a other goal → length way ≤ length other
  pub least : (other : List ℕ) → Chain R a other goal → length other ≡ length way → NoLater way other

-- The way that is computed is that one, and where none is there is none.
abbrev pub WayIsTheShortest : Type 0
WayIsTheShortest = (pairs : List (ℕ × ℕ)) (count goal a : ℕ) → AllBelow pairs count →
    MatchOption (way_to (is_paired pairs) count goal a) ((between : List ℕ) → ¬ (Chain (Paired pairs) a between goal))
    (λ way. IsWay (Paired pairs) goal a way)

-- So a greater count finds the same.
abbrev pub WayOfAnyCount : Type 0
WayOfAnyCount = (pairs : List (ℕ × ℕ)) (count more goal a : ℕ) → AllBelow pairs count → count ≤ more →
    way_to (is_paired pairs) more goal a ≡ way_to (is_paired pairs) count goal a
