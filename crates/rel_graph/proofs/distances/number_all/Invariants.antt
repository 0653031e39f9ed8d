-- What was found before the index has the level.
use Rattle.std.proofs.Common.{◌≡◌, ℕ, Some, Contains, length, take}
use Rattle.rel_graph.specs.Distances.{distance}
use Rattle.rel_graph.proofs.distances.number_all.Given as goal

abbrev pub invariant-loop-at : goal.invariant-loop-at
invariant-loop-at l = record {
  long : length l.numbers ≡ length l.fn.numbers;
  given : (x : ℕ) → Contains (take l.at-index l.found) x → distance l.numbers x ≡ Some l.level;
  kept : (x : ℕ) → ¬ (Contains (take l.at-index l.found) x) → distance l.numbers x ≡ distance l.fn.numbers x;
}
