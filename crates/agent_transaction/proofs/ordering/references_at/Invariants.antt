use Rattle.std.proofs.Common.{◌≡◌, ◌++◌, length}
use Rattle.agent_transaction.specs.Catalogs.{references_at}
use Rattle.agent_transaction.proofs.ordering.references_at.Given as goal

abbrev pub invariant-loop-left : goal.invariant-loop-left
invariant-loop-left l = l.items.items ++ references_at l.resources l.left ≡ references_at l.resources l.indexes

abbrev pub decreases-loop-left : goal.decreases-loop-left
decreases-loop-left l = length l.left
