-- The least before the index, or the number of resources where there is none.
use Rattle.std.proofs.Common.{◌≡◌, ◌⊎◌, ◌≤◌, ℕ, Some, Contains, length, take}
use Rattle.rel_graph.specs.Distances.{distance}
use Rattle.rel_graph.proofs.cycles.least_of.Given as goal

abbrev pub invariant-loop-at : goal.invariant-loop-at
invariant-loop-at l = record {
  is : (l.least ≡ length l.numbers) ⊎ (Contains l.found l.least × (distance l.numbers l.least ≡ Some l.left));
  least : (y : ℕ) → Contains (take l.at-index l.found) y → distance l.numbers y ≡ Some l.left → l.least ≤ y;
}
