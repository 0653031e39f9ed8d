use Rattle.std.proofs.Common.{◌≡◌, ◌++◌, map, length}
use Rattle.agent_transaction.specs.Tasks.{looked_at}
use Rattle.agent_transaction.proofs.tasks.looked_at.Given as goal

abbrev pub invariant-loop-left : goal.invariant-loop-left
invariant-loop-left l =
    l.wants.items ++ looked_at (map (λ n. n.now) l.left) l.attributes ≡ looked_at (map (λ n. n.now) l.names) l.attributes

abbrev pub decreases-loop-left : goal.decreases-loop-left
decreases-loop-left l = length l.left
