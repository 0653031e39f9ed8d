-- The arrows before the index are counted.
use Rattle.std.proofs.Common.{◌≡◌, ◌<◌, ℕ, [], length, slice_index, take}
use Rattle.rel_graph.specs.Releases.{waiting}
use Rattle.rel_graph.proofs.releasing.waits_of.Given as goal

abbrev pub invariant-loop-arrow : goal.invariant-loop-arrow
invariant-loop-arrow l = record {
  long : length l.waits.items ≡ l.steps;
  counted : (x : ℕ) → x < l.steps → slice_index l.waits.items x ≡ waiting [] (take l.arrow-index l.arrows) x;
}
