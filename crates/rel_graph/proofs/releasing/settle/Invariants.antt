-- What is free is still to be done.
use Rattle.std.proofs.Common.{◌≡◌, ℕ, ◌+◌, length, count_by, not, slice_index_or, false}
use Rattle.rel_graph.specs.Releases.{weight}
use Rattle.rel_graph.specs.Steps.{IsListing, Pending, AreCounted, AreReady}
use Rattle.rel_graph.proofs.releasing.settle.Given as goal

abbrev pub invariant-loop-step : goal.invariant-loop-step
invariant-loop-step l = record {
  counted : AreCounted l.arrows (length l.out) l.done l.waits (Pending l.free.items l.ready.keys);
  ready : AreReady l.done l.ready.keys;
  listings : (v : ℕ) → IsListing v → slice_index_or l.done v false ≡ slice_index_or l.fn.done v false;
}

abbrev pub decreases-loop-step : goal.decreases-loop-step
decreases-loop-step l = weight (count_by not l.done) (length l.arrows) + length l.free.items
