use Rattle.history_audit.proofs.Exact.{exact}
use Rattle.history_audit.proofs.laws.says_legal_exactly.Goals as goal

pub returns : goal.returns
returns g c = exact g.L.Language.meaning
