use Rattle.std.proofs.Common.{ℕ, ◌<◌, get_or}
use Rattle.rel_graph.specs.Spans.{LiesWithin}
use Rattle.rel_graph.proofs.spans.do_all_lie_within.Given as goal

abbrev pub invariant-loop-pair : goal.invariant-loop-pair
invariant-loop-pair l = (k : ℕ) → k < l.pair-index → LiesWithin l.gap l.spans (get_or l.containers k (0, 0))
