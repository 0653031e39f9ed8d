use Rattle.rel_graph.proofs.Uniqueness.{one_cycle_law}
use Rattle.rel_graph.proofs.laws.there_is_one_cycle.Goals as goal

pub returns : goal.returns
returns c = one_cycle_law
