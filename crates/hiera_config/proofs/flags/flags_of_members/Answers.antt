use Rattle.hiera_config.proofs.FlagLemmas.{knows_members}
use Rattle.hiera_config.proofs.flags.flags_of_members.Goals as goal

pub returns : goal.returns
returns c = knows_members _ _ _ c.set_flags.ensures
