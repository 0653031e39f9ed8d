use Rattle.std.proofs.Common.{◌∙◌, sym, refl, true≢false, arith}
use Rattle.rel_graph.specs.Spans.{ComesLater}
use Rattle.rel_graph.proofs.SpanLemmas.{each_pair}
use Rattle.rel_graph.proofs.spans.do_all_come_later.Goals as goal

pub returns : goal.returns
returns c = (λ _. each_pair (ComesLater c.args.gap c.args.spans.now) c.args.edges.now c.loop-pair.pair-index (omega arith) c.loop-pair.invariant, λ _. refl)

pub returns-then-not-comes_later : goal.returns-then-not-comes_later
returns-then-not-comes_later c = (
  λ t. absurd (true≢false (sym t)),
  λ all. absurd (true≢false (sym (c.comes_later.ensures.1 (all c.loop-pair.pair-index (0, 0) c.loop-pair-test.true)) ∙ c.if-not-comes_later.true)),
)
