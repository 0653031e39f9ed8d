use Rattle.world_laws.proofs.Worlds.{same_world, extends_on}
use Rattle.world_laws.proofs.growth.extending.Goals as goal

pub returns-clause-same : goal.returns-clause-same
returns-clause-same c = same_world

pub returns-clause-further : goal.returns-clause-further
returns-clause-further c = extends_on
