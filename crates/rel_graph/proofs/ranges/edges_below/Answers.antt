use Rattle.std.proofs.Common.{refl, sym, true≢false, false, arith}
use Rattle.rel_graph.specs.Graphs.{edge_pair}
use Rattle.rel_graph.proofs.Within.{within_more, within_all, within_not}
use Rattle.rel_graph.proofs.ranges.edges_below.Goals as goal
use Rattle.rel_graph.proofs.ranges.edges_below.Goals.{then-edge-count-via-then-edge-count, then-edge-count-via-else-edge-count+then-edge-count-2}

pub returns-then-edge-count : goal.returns-then-edge-count
returns-then-edge-count c = (
  λ t. absurd (true≢false (sym t)),
  λ all.
      let h = within_not edge_pair c.args.count c.args.edges.now (record { from = 0; to = 0; signal = false })
      c.loop-edge.edge-index c.loop-edge-test.true all in
      absurd (elim c.then-edge-count.branch [
        | then-edge-count-via-then-edge-count w ↦ let a = h.0 in omega arith
        | then-edge-count-via-else-edge-count+then-edge-count-2 w ↦ let b = h.1 in omega arith
      ]),
)

pub loop-edge-preserved : goal.loop-edge-preserved
loop-edge-preserved c = within_more edge_pair c.args.count c.args.edges.now
    (record { from = 0; to = 0; signal = false }) c.loop-edge.edge-index c.loop-edge.invariant (
      c.if-edge-count.false,
      c.if-edge-count-2.false,
    )

pub returns : goal.returns
returns c = (
  λ _. within_all edge_pair c.args.count c.args.edges.now (
    0,
    0,
  ) c.loop-edge.edge-index c.loop-edge.invariant (omega arith),
  λ _. refl,
)
