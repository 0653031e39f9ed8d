use Rattle.hiera_config.proofs.CutLemmas.{cut_at_is}
use Rattle.hiera_config.proofs.cutting.cut_at.Goals as goal

pub returns : goal.returns
returns c = cut_at_is _ _ _ c.requires c.split_once.ensures.cases
