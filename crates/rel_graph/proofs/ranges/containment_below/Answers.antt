use Rattle.std.proofs.Common.{refl, sym, true≢false, arith}
use Rattle.rel_graph.specs.Graphs.{containment_pair}
use Rattle.rel_graph.proofs.Within.{within_more, within_all, within_not}
use Rattle.rel_graph.proofs.ranges.containment_below.Goals as goal
use Rattle.rel_graph.proofs.ranges.containment_below.Goals.{then-it-count-via-then-it-count, then-it-count-via-else-it-count+then-it-count-2}

pub returns-then-it-count : goal.returns-then-it-count
returns-then-it-count c = (
  λ t. absurd (true≢false (sym t)),
  λ all.
      let h = within_not containment_pair c.args.count c.args.containers.now (record { container = 0; member = 0 })
      c.loop-it.it-index c.loop-it-test.true all in
      absurd (elim c.then-it-count.branch [
        | then-it-count-via-then-it-count w ↦ let a = h.0 in omega arith
        | then-it-count-via-else-it-count+then-it-count-2 w ↦ let b = h.1 in omega arith
      ]),
)

pub loop-it-preserved : goal.loop-it-preserved
loop-it-preserved c = within_more containment_pair c.args.count c.args.containers.now
    (record { container = 0; member = 0 }) c.loop-it.it-index c.loop-it.invariant (
      c.if-it-count.false,
      c.if-it-count-2.false,
    )

pub returns : goal.returns
returns c = (
  λ _. within_all containment_pair c.args.count c.args.containers.now (
    0,
    0,
  ) c.loop-it.it-index c.loop-it.invariant (omega arith),
  λ _. refl,
)
