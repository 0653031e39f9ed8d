use Rattle.std.proofs.Common.{subst}
use Rattle.site_commands.proofs.Journals.{stopped_said}
use Rattle.site_commands.specs.Inputs.{ReadsJournal}
use Rattle.site_commands.proofs.journal_input.take_journal.Goals as goal

pub returns-in-Ok-clause-stop : goal.returns-in-Ok-clause-stop
returns-in-Ok-clause-stop g c = stopped_said c.parse_journal.result c.in-Ok.bytes _ _ c.in-Ok.ensures.all
    (subst (λ b. ReadsJournal c.parse_journal.result b) c.as_slice.ensures c.parse_journal.ensures.read)
