use Rattle.site_core.specs.declared.history.TheConstants.{MOST_ENTRIES}
use Rattle.history_tools.proofs.Settled.{settled_is_meant}
use Rattle.history_tools.proofs.laws.settled_is_meant.Goals as goal

pub returns : goal.returns
returns g c = settled_is_meant g.L.Language.meaning g.L.Language.listed MOST_ENTRIES
