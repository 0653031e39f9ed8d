use Rattle.site_core.specs.declared.history.TheConstants.{MOST_ENTRIES}
use Rattle.site_sequence.proofs.Turns.{names}
use Rattle.site_sequence.proofs.laws.replies_name_entries.Goals as goal

pub returns : goal.returns
returns g c = names g.L.Language.meaning g.L.Language.listed MOST_ENTRIES
