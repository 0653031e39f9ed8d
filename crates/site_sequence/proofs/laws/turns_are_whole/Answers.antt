use Rattle.site_core.specs.declared.history.TheConstants.{MOST_ENTRIES}
use Rattle.site_sequence.proofs.OneAuthor.{turns_are_whole}
use Rattle.site_sequence.proofs.laws.turns_are_whole.Goals as goal

pub returns : goal.returns
returns g c = turns_are_whole g.L.Language.meaning g.L.Language.listed MOST_ENTRIES
