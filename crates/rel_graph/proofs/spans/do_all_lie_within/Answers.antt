use Rattle.std.proofs.Common.{◌∙◌, sym, refl, true≢false, arith}
use Rattle.rel_graph.specs.Spans.{LiesWithin}
use Rattle.rel_graph.proofs.SpanLemmas.{each_pair}
use Rattle.rel_graph.proofs.spans.do_all_lie_within.Goals as goal

pub returns : goal.returns
returns c = (λ _. each_pair (LiesWithin c.args.gap c.args.spans.now) c.args.containers.now c.loop-pair.pair-index (omega arith) c.loop-pair.invariant, λ _. refl)

pub returns-then-not-lies_within : goal.returns-then-not-lies_within
returns-then-not-lies_within c = (
  λ t. absurd (true≢false (sym t)),
  λ all. absurd (true≢false (sym (c.lies_within.ensures.1 (all c.loop-pair.pair-index (0, 0) c.loop-pair-test.true)) ∙ c.if-not-lies_within.true)),
)
