-- What was read so far, and what is left.
use Rattle.std.specs.Vec.Iter.{into_iter_items, into_iter_len}
use Rattle.history_tools.proofs.Replied.{IsReading}
use Rattle.history_tools.proofs.telling.outcome_of.Given as goal

abbrev pub invariant-loop-reply : goal.invariant-loop-reply
invariant-loop-reply g l =
    IsReading l.fn.replies.items (into_iter_items l.reply-iterator) (into_iter_len l.reply-iterator) l.place l.outcome
