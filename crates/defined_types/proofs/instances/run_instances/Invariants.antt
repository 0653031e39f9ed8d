-- What the instances that are left do is what all of them do; the node stays.
use Rattle.std.proofs.Common.{◌≡◌, length}
use Rattle.defined_types.specs.Rounds.{run_instances}
use Rattle.defined_types.proofs.instances.run_instances.Given as goal

abbrev pub invariant-loop-left : goal.invariant-loop-left
invariant-loop-left l =
    (run_instances l.before l.numbers l.fn.evaluator.world ≡ run_instances l.added l.left l.evaluator.world)
    × (l.evaluator.node ≡ l.fn.evaluator.node)
    × (l.evaluator.looks ≡ l.fn.evaluator.looks)

abbrev pub decreases-loop-left : goal.decreases-loop-left
decreases-loop-left l = length l.left
