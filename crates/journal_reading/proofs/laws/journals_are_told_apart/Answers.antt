use Rattle.journal_reading.proofs.JournalsApart.{journals_apart}
use Rattle.journal_reading.proofs.laws.journals_are_told_apart.Goals as goal

pub returns : goal.returns
returns c = journals_apart
