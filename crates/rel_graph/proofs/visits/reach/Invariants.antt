-- What is ahead is still to be marked.
use Rattle.std.proofs.Common.{◌+◌, length, count_by, not}
use Rattle.rel_graph.specs.Releases.{weight}
use Rattle.rel_graph.specs.Visits.{Reaching}
use Rattle.rel_graph.proofs.visits.reach.Given as goal

abbrev pub invariant-loop-at : goal.invariant-loop-at
invariant-loop-at l = Reaching l.pairs l.fn.marks l.fn.start.items l.marks l.ahead.items l.found.items

abbrev pub decreases-loop-at : goal.decreases-loop-at
decreases-loop-at l = weight (count_by not l.marks) (length l.pairs) + length l.ahead.items
