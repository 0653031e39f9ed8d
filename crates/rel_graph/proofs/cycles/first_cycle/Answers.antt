use Rattle.std.proofs.Common.{◌<◌, below_more, subst, arith}
use Rattle.rel_graph.specs.Spans.{span, IsLine}
use Rattle.rel_graph.proofs.Below.{before_below}
use Rattle.rel_graph.proofs.SpanLemmas.{apart}
use Rattle.rel_graph.proofs.cycles.first_cycle.Goals as goal

pub loop-start-preserved-then-is_apart : goal.loop-start-preserved-then-is_apart
loop-start-preserved-then-is_apart c =
    let spans = c.in_ok-spans.spans.items in
    let line = subst (λ s. IsLine 0 s c.args.containers.now c.args.edges.now) c.as_slice.ensures.value
    (c.is_line-lined_up.ensures.0 c.if-lined_up.true) in
    let less = subst (λ s. (span s c.loop-start.start).0 < (span s c.loop-start.start).1)
    c.as_slice-then-lined_up.ensures.value (c.is_apart.ensures.0 c.if-is_apart.true) in
    below_more _ _ c.loop-start.invariant (apart 0 spans _ _ line c.loop-start.start less)

pub loop-start-preserved : goal.loop-start-preserved
loop-start-preserved c = below_more _ _ c.loop-start.invariant (rw c.in_default.is at c.in_ok-cycle.ensures.none)

pub returns-in-Some-clause-some : goal.returns-in-Some-clause-some
returns-in-Some-clause-some c = rw c.in-Some.is at c.in_ok-cycle.ensures.some c.loop-start.invariant

pub returns-clause-none : goal.returns-clause-none
returns-clause-none c = λ q h. c.loop-start.invariant q
    (let k = before_below _ _ _ q q c.requires.below c.requires.edges_below h in omega (arith, k)) h
