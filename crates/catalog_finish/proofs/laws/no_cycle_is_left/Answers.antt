use Rattle.catalog_finish.proofs.NoCycleLemmas.{no_cycle_is_left}
use Rattle.catalog_finish.proofs.laws.no_cycle_is_left.Goals as goal

pub returns : goal.returns
returns c = no_cycle_is_left
