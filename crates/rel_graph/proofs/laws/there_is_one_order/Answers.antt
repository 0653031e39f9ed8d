use Rattle.rel_graph.proofs.Uniqueness.{one_order_law}
use Rattle.rel_graph.proofs.laws.there_is_one_order.Goals as goal

pub returns : goal.returns
returns c = one_order_law
