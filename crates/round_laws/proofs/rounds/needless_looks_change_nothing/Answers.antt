use Rattle.round_laws.proofs.Watching.{rounds_agree}
use Rattle.round_laws.proofs.rounds.needless_looks_change_nothing.Goals as goal

pub returns : goal.returns
returns c = rounds_agree
