use Rattle.history_audit.proofs.First.{first}
use Rattle.history_audit.proofs.laws.tells_the_first.Goals as goal

pub returns : goal.returns
returns g c = first g.L.Language.meaning
