use Rattle.std.proofs.Common.{ℕ, ◌<◌, ◌≤◌, get_or}
use Rattle.rel_graph.proofs.spans.are_spans.Given as goal

abbrev pub invariant-loop-found : goal.invariant-loop-found
invariant-loop-found l = (k : ℕ) → k < l.found-index → (get_or l.spans k (0, 0)).0 ≤ (get_or l.spans k (0, 0)).1
