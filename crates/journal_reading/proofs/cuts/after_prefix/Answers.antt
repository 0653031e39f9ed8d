use Rattle.journal_reading.proofs.TextCuts.{after_prefix_is}
use Rattle.journal_reading.proofs.cuts.after_prefix.Goals as goal

pub returns : goal.returns
returns c = after_prefix_is _ _ _ c.strip_prefix.ensures.cases
