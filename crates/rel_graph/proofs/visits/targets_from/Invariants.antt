-- The targets of what was found before the index.
use Rattle.std.proofs.Common.{ℕ, Contains, take}
use Rattle.rel_graph.specs.Chains.{Paired}
use Rattle.rel_graph.proofs.visits.targets_from.Given as goal

abbrev pub invariant-loop-at : goal.invariant-loop-at
invariant-loop-at l = record {
  all : (x y : ℕ) → Contains (take l.at-index l.found) x → Paired l.pairs x y → Contains l.targets.items y;
  sound : (y : ℕ) → Contains l.targets.items y → (x : ℕ) × Contains (take l.at-index l.found) x × Paired l.pairs x y;
}
