use Rattle.hiera_config.proofs.CutLemmas.{before_suffix_is}
use Rattle.hiera_config.proofs.cutting.before_suffix.Goals as goal

pub returns : goal.returns
returns c = before_suffix_is _ _ _ c.strip_suffix.ensures.cases
