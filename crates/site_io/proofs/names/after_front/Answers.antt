use Rattle.site_io.proofs.Fronts.{after_front_is}
use Rattle.site_io.proofs.names.after_front.Goals as goal

pub returns : goal.returns
returns c = after_front_is _ _ _ c.strip_prefix.ensures.cases
