use Rattle.compile_core.proofs.MeantOrders.{no_cycle_is_meant}
use Rattle.compile_core.proofs.laws.no_cycle_is_meant.Goals as goal

pub returns : goal.returns
returns c = no_cycle_is_meant
