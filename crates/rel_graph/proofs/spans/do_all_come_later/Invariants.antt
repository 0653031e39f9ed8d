use Rattle.std.proofs.Common.{ℕ, ◌<◌, get_or}
use Rattle.rel_graph.specs.Spans.{ComesLater}
use Rattle.rel_graph.proofs.spans.do_all_come_later.Given as goal

abbrev pub invariant-loop-pair : goal.invariant-loop-pair
invariant-loop-pair l = (k : ℕ) → k < l.pair-index → ComesLater l.gap l.spans (get_or l.edges k (0, 0))
