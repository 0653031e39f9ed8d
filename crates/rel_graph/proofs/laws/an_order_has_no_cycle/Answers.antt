use Rattle.rel_graph.proofs.Uniqueness.{order_law}
use Rattle.rel_graph.proofs.laws.an_order_has_no_cycle.Goals as goal

pub returns : goal.returns
returns c = order_law
