use Rattle.rel_graph.proofs.Ordering.{order_from, listed_all}
use Rattle.rel_graph.proofs.sorting.sort.Goals as goal

pub returns-in_ok-listed-in-None : goal.returns-in_ok-listed-in-None
returns-in_ok-listed-in-None c =
    let acyclic = rw c.in-None.is at c.in_ok-cycle.ensures.none in
    let listed = c.in_ok-listed-in-None in
    rw c.from_vec-in-None.ensures (order_from _ _ listed.listed.left.items listed.listed.order.items listed.ensures.listing
    (listed_all _ _ _ _ listed.ensures.listing listed.ensures.stuck acyclic))
