use Rattle.world_laws.proofs.OfEvaluator.{within_grows}
use Rattle.world_laws.proofs.growth.parts_only_add.Goals as goal

pub returns : goal.returns
returns c = within_grows
