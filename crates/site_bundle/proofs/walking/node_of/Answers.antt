use Rattle.site_bundle.proofs.NodeFiles.{node_of_is}
use Rattle.site_bundle.proofs.walking.node_of.Goals as goal

pub returns : goal.returns
returns c = node_of_is _ _ c.strip_suffix.ensures.cases
