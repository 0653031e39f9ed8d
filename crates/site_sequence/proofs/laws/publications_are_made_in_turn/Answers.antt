use Rattle.site_core.specs.declared.history.TheConstants.{MOST_ENTRIES}
use Rattle.site_sequence.proofs.Turns.{in_turn}
use Rattle.site_sequence.proofs.laws.publications_are_made_in_turn.Goals as goal

pub returns : goal.returns
returns g c = in_turn g.L.Language.meaning g.L.Language.listed MOST_ENTRIES
