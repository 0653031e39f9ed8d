use Rattle.hiera_config.proofs.PlanLemmas.{no_plan}
use Rattle.hiera_config.proofs.reaching.add_default.Goals as goal

pub add_levels-requires : goal.add_levels-requires
add_levels-requires c = no_plan _ _ _
