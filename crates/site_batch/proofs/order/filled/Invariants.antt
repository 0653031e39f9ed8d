use Rattle.std.proofs.Common.{◌≡◌, List, ◌++◌, length}
use Rattle.site_batch.specs.declared.answered.Answered.{Answered}
use Rattle.site_batch.specs.Answers.{AreFilled}
use Rattle.site_batch.proofs.order.filled.Given as goal

abbrev pub invariant-loop-answer : goal.invariant-loop-answer
invariant-loop-answer g l =
    (done : List (Answered g.row.T.Denot)) × (l.fn.answers.items ≡ l.answers.items ++ done) × AreFilled l.count done l.slots.items

abbrev pub decreases-loop-answer : goal.decreases-loop-answer
decreases-loop-answer g l = length l.answers.items
