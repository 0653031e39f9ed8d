-- What was taken out, and what the places that are left hold, is all that the places held.
use Rattle.std.proofs.Common.{◌≡◌, ◌++◌}
use Rattle.std.specs.Vec.Iter.{into_iter_items}
use Rattle.site_batch.specs.Answers.{somes}
use Rattle.site_batch.proofs.order.opened.Given as goal

abbrev pub invariant-loop-slot : goal.invariant-loop-slot
invariant-loop-slot g l = l.replies.items ++ somes (into_iter_items l.slot-iterator) ≡ somes l.fn.slots.items
