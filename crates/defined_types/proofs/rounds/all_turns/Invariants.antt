-- What the collectors that are left do is what all of them do; the node stays.
use Rattle.std.proofs.Common.{◌≡◌, ◌-◌}
use Rattle.defined_types.specs.Watched.{all_watched, seen, watched_turns}
use Rattle.defined_types.proofs.rounds.all_turns.Given as goal

abbrev pub invariant-loop-collector : goal.invariant-loop-collector
invariant-loop-collector l =
    (all_watched l.node l.sets (seen l.fn.evaluator l.fn.watch)
    ≡ watched_turns l.added l.collector (l.count - l.collector) l.node l.sets (seen l.evaluator l.watch))
    × (l.evaluator.node ≡ l.fn.evaluator.node)

abbrev pub decreases-loop-collector : goal.decreases-loop-collector
decreases-loop-collector l = l.count - l.collector
