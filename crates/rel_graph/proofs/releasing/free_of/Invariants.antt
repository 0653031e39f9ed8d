-- What is free before the index.
use Rattle.std.proofs.Common.{◌≡◌, ◌<◌, ℕ, slice_index, Contains}
use Rattle.rel_graph.proofs.releasing.free_of.Given as goal

abbrev pub invariant-loop-step : goal.invariant-loop-step
invariant-loop-step l = record {
  sound : (v : ℕ) → Contains l.free.items v → (v < l.step) × (slice_index l.waits v ≡ 0);
  all : (v : ℕ) → v < l.step → slice_index l.waits v ≡ 0 → Contains l.free.items v;
}
