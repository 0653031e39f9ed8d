use Rattle.independence_laws.proofs.Later.{block_later}
use Rattle.independence_laws.proofs.parts.later_is_the_same.Goals as goal

pub returns : goal.returns
returns c = block_later
