use Rattle.std.proofs.Common.{arith, refl}
use Rattle.journal_reading.proofs.JournalsRead.{journal_reads}
use Rattle.journal_reading.proofs.reading.read_journal.Goals as goal

pub returns : goal.returns
returns c = journal_reads (λ h. h.entries) (λ es. record { entries = es }) (λ es. refl) c.args.text.now (omega arith) _ c.read_whole.ensures
