use Rattle.std.proofs.Common.{map, subst}
use Rattle.rel_graph.specs.Graphs.{containment_pair}
use Rattle.agent_transaction.proofs.ApplyLemmas.{ordered_by, cycle_by}
use Rattle.agent_transaction.specs.Preparing.{StopTells}
use Rattle.agent_transaction.proofs.ordering.order_of.Goals as goal

pub returns-in-Ok-order : goal.returns-in-Ok-order
returns-in-Ok-order c =
    ordered_by c.args.resources.now c.args.edges.now (map containment_pair c.args.containers.now) c.args.count
    c.requires.count c.requires.containers c.in-Ok.graph c.in-Ok-order.order c.in-Ok.ensures c.in-Ok-order.ensures

pub returns-in-Err-Cycle : goal.returns-in-Err-Cycle
returns-in-Err-Cycle c =
    cycle_by c.args.resources.now c.args.edges.now (map containment_pair c.args.containers.now) c.args.count
    c.requires.count c.requires.containers c.in-Ok.graph c.in-Err-Cycle.cycle c.cycle_told.result c.in-Ok.ensures
    (rw c.in-Err-Cycle.field-0-is at c.in-Err-Cycle.ensures)
    (subst (λ l. StopTells c.args.resources.now l c.cycle_told.result) c.as_slice.ensures c.cycle_told.ensures)
