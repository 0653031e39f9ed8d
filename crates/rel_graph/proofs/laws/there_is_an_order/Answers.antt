use Rattle.rel_graph.proofs.OrderLemmas.{some_order}
use Rattle.rel_graph.proofs.laws.there_is_an_order.Goals as goal

pub returns : goal.returns
returns c = some_order
