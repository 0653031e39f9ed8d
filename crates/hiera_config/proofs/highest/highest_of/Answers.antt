use Rattle.hiera_config.proofs.SoundLemmas.{skips_all}
use Rattle.hiera_config.proofs.highest.highest_of.Goals as goal

pub highest_in-requires-clause-skips : goal.highest_in-requires-clause-skips
highest_in-requires-clause-skips c = skips_all _ _ _ c.requires.0

pub highest_in-requires-in-None-clause-skips : goal.highest_in-requires-in-None-clause-skips
highest_in-requires-in-None-clause-skips c = skips_all _ _ _ c.requires.1
