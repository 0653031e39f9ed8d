use Rattle.eval_collectors.proofs.Deeper.{levels_only_refuse}
use Rattle.eval_collectors.proofs.laws.levels_only_refuse.Goals as goal

pub returns : goal.returns
returns c = levels_only_refuse
