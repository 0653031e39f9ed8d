-- What is the first of the nodes that are left is the first of all.
use Rattle.std.proofs.Common.{ℕ, List, length, Option}
use Rattle.history_tools.specs.Rounds.{FirstApart}
use Rattle.history_tools.proofs.set_changes.first_changed.Given as goal

abbrev pub invariant-loop-left : goal.invariant-loop-left
invariant-loop-left l =
    (found : Option (List ℕ)) → FirstApart l.before l.after l.left found → FirstApart l.before l.after l.nodes found

abbrev pub decreases-loop-left : goal.decreases-loop-left
decreases-loop-left l = length l.left
