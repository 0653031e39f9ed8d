use Rattle.std.proofs.Common.{◌≡◌, ◌++◌, length}
use Rattle.agent_transaction.specs.Runs.{signalling}
use Rattle.agent_transaction.proofs.relating.signalling.Given as goal

abbrev pub invariant-loop-left : goal.invariant-loop-left
invariant-loop-left l = l.pairs.items ++ signalling l.left ≡ signalling l.edges

abbrev pub decreases-loop-left : goal.decreases-loop-left
decreases-loop-left l = length l.left
