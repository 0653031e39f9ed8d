use Rattle.std.proofs.Common.{◌≤◌, refl, sym, true≢false, arith}
use Rattle.rel_graph.proofs.SpanLemmas.{each_pair}
use Rattle.rel_graph.proofs.spans.are_spans.Goals as goal

pub returns : goal.returns
returns c = (λ _. each_pair (λ s. s.0 ≤ s.1) c.args.spans.now c.loop-found.found-index (omega arith) c.loop-found.invariant, λ _. refl)

pub returns-then-found : goal.returns-then-found
returns-then-found c = (
  λ t. absurd (true≢false (sym t)),
  λ all. absurd (let h = all c.loop-found.found-index (0, 0) c.loop-found-test.true in omega arith),
)
