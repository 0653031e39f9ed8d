use Rattle.std.proofs.Common.{sym}
use Rattle.rel_graph.proofs.Uniqueness.{order_law}
use Rattle.rel_graph.proofs.CycleLemmas.{before_is, before_isnt}
use Rattle.catalog_finish.proofs.containment.cycle_before.Goals as goal

pub returns-then-not-has_cycle : goal.returns-then-not-has_cycle
returns-then-not-has_cycle c =
    let g = c.args.graph.now in
    sym (before_isnt g.containers g.edges g.count c.requires.below c.requires.edges_below
    (c.has_cycle.ensures.no c.if-not-has_cycle.true))

pub returns-in-Ok : goal.returns-in-Ok
returns-in-Ok c =
    let g = c.args.graph.now in
    sym (before_isnt g.containers g.edges g.count c.requires.below c.requires.edges_below
    (order_law g.containers g.edges g.count _ c.requires.below c.requires.edges_below c.in-Ok.ensures))

pub returns-in-Err-Cycle : goal.returns-in-Err-Cycle
returns-in-Err-Cycle c =
    let g = c.args.graph.now in
    sym (before_is g.containers g.edges g.count c.requires.below c.requires.edges_below _
    (rw c.in-Err-Cycle.field-0-is at c.in-Err-Cycle.ensures))
