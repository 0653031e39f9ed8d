use Rattle.hiera_config.proofs.SoundLemmas.{skips_all}
use Rattle.hiera_config.proofs.planned.sources_in.Goals as goal

pub add_in_plan-requires-clause-skips : goal.add_in_plan-requires-clause-skips
add_in_plan-requires-clause-skips c = skips_all _ _ _ c.requires.0

pub add_in_plan-requires-2-clause-skips : goal.add_in_plan-requires-2-clause-skips
add_in_plan-requires-2-clause-skips c = skips_all _ _ _ c.requires.1
