use Rattle.std.proofs.Common.{◌+◌, refl}
use Rattle.history_tools.proofs.Replied.{reading_more}
use Rattle.history_tools.proofs.telling.outcome_of.Goals as goal

pub loop-reply-preserved : goal.loop-reply-preserved
loop-reply-preserved g c =
    reading_more c.args.replies.items _ _ _ _ c.loop-reply.place (c.loop-reply.place + 1) c.loop-reply.outcome
    c.in_ok-outcome.outcome c.in-Some.reply c.loop-reply.invariant c.in-Some.ensures.steps.0 c.in-Some.ensures.steps.1
    c.in_ok-outcome.ensures refl
