-- What the rounds that are left do is what all of them do; the node stays.
use Rattle.std.proofs.Common.{◌≡◌}
use Rattle.defined_types.specs.Rounds.{limit}
use Rattle.defined_types.specs.Watched.{seen, watched_left}
use Rattle.defined_types.proofs.rounds.all_rounds.Given as goal

abbrev pub invariant-loop-left : goal.invariant-loop-left
invariant-loop-left l =
    (watched_left limit l.node l.sets (seen l.fn.evaluator l.fn.watch)
    ≡ watched_left l.left l.node l.sets (seen l.evaluator l.watch))
    × (l.evaluator.node ≡ l.fn.evaluator.node)

abbrev pub decreases-loop-left : goal.decreases-loop-left
decreases-loop-left l = l.left
