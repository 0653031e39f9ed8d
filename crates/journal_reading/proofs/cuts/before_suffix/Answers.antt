use Rattle.journal_reading.proofs.TextCuts.{before_suffix_is}
use Rattle.journal_reading.proofs.cuts.before_suffix.Goals as goal

pub returns : goal.returns
returns c = before_suffix_is _ _ _ c.strip_suffix.ensures.cases
