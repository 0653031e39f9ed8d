use Rattle.journal_reading.proofs.TextCuts.{last_split}
use Rattle.journal_reading.proofs.cuts.cut_last.Goals as goal

pub returns : goal.returns
returns c = last_split _ _ c.rsplit_once.ensures.cases
