-- What the looks that are left add is what all of them add; the node stays.
use Rattle.std.proofs.Common.{◌≡◌, ◌-◌}
use Rattle.defined_types.specs.Watched.{look_all, look_from, seen}
use Rattle.defined_types.proofs.rounds.look_each.Given as goal

abbrev pub invariant-loop-number : goal.invariant-loop-number
invariant-loop-number l =
    (look_all l.collector (seen l.fn.evaluator l.fn.watch)
    ≡ look_from l.collector l.added l.number (l.count - l.number) (seen l.evaluator l.watch))
    × (l.evaluator.node ≡ l.fn.evaluator.node)

abbrev pub decreases-loop-number : goal.decreases-loop-number
decreases-loop-number l = l.count - l.number
