use Rattle.world_laws.proofs.Started.{placed_first}
use Rattle.world_laws.proofs.growth.all_is_placed.Goals as goal

pub returns-clause-first : goal.returns-clause-first
returns-clause-first c = placed_first

pub returns-clause-further : goal.returns-clause-further
returns-clause-further c = λ v w f. f.placed
