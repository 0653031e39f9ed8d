use Rattle.hiera_config.proofs.CutLemmas.{after_prefix_is}
use Rattle.hiera_config.proofs.cutting.after_prefix.Goals as goal

pub returns : goal.returns
returns c = after_prefix_is _ _ _ c.strip_prefix.ensures.cases
