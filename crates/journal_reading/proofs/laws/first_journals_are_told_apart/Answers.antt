use Rattle.journal_reading.proofs.JournalsApart.{first_journals_apart}
use Rattle.journal_reading.proofs.laws.first_journals_are_told_apart.Goals as goal

pub returns : goal.returns
returns c = first_journals_apart
