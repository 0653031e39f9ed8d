use Rattle.site_serve.proofs.Responding.{has_reply}
use Rattle.site_serve.proofs.answering.reply.Goals as goal

pub returns : goal.returns
returns g c = has_reply _ _ _ _ _ _ _ _ _ _ c.seen-told.ensures c.answer-reply.ensures c.reply_response.ensures
