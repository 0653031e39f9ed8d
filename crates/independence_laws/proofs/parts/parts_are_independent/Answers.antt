use Rattle.independence_laws.proofs.OfEvaluator.{within_same}
use Rattle.independence_laws.proofs.parts.parts_are_independent.Goals as goal

pub returns : goal.returns
returns c = within_same
