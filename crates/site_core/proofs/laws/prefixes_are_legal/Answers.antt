use Rattle.site_core.proofs.Legal.{prefixes}
use Rattle.site_core.proofs.laws.prefixes_are_legal.Goals as goal

pub returns : goal.returns
returns g c = prefixes g.L.Language.meaning
