use Rattle.res_core.proofs.NameLemmas.{tags_are_the_set as the_set}
use Rattle.res_core.proofs.tagging.tags_are_the_set.Goals as goal

pub returns : goal.returns
returns c = the_set
