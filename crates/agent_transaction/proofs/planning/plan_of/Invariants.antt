use Rattle.std.proofs.Common.{◌≡◌, ◌++◌, map, length}
use Rattle.agent_transaction.specs.Marking.{planned_pair, AreBelow}
use Rattle.agent_transaction.specs.Runs.{tasks_at}
use Rattle.agent_transaction.proofs.planning.plan_of.Given as goal

abbrev pub invariant-loop-left : goal.invariant-loop-left
invariant-loop-left l = record {
  planned : map planned_pair l.items.items ++ tasks_at l.resources l.left ≡ tasks_at l.resources l.order;
  below : AreBelow (length l.resources) l.items.items;
}

abbrev pub decreases-loop-left : goal.decreases-loop-left
decreases-loop-left l = length l.left
