use Rattle.site_words.proofs.Simple.{words_taken, words_refused}
use Rattle.site_words.proofs.words.parse.Goals as goal

pub returns-in-Ok : goal.returns-in-Ok
returns-in-Ok c = words_taken _ _ _ c.in_ok-line.ensures c.in-Ok.ensures.matches c.in-Ok.ensures.kinds

pub returns-in-Err : goal.returns-in-Err
returns-in-Err c = words_refused _ _ c.in-Err.error _ c.in_ok-line.ensures c.in-Err.ensures.kinds c.refusal.ensures
