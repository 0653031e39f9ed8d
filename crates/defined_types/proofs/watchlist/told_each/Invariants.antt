-- What was told, and what is told of those that are left, is what is told of all.
use Rattle.std.proofs.Common.{◌≡◌, ◌-◌, ◌++◌}
use Rattle.defined_types.specs.Watched.{told_from}
use Rattle.defined_types.proofs.watchlist.told_each.Given as goal

abbrev pub invariant-loop-number : goal.invariant-loop-number
invariant-loop-number l =
    told_from l.evaluator.world l.old l.now 0 l.count
    ≡ l.told.items ++ told_from l.evaluator.world l.old l.now l.number (l.count - l.number)

abbrev pub decreases-loop-number : goal.decreases-loop-number
decreases-loop-number l = l.count - l.number
