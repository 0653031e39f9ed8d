use Rattle.rel_graph.proofs.Contained.{contained_none, contained_cycle}
use Rattle.rel_graph.proofs.graph.check_containment.Goals as goal

pub returns-in-None : goal.returns-in-None
returns-in-None c = contained_none _ (rw c.in-None.is at c.in_ok-cycle.ensures.none)

pub returns-in-Some : goal.returns-in-Some
returns-in-Some c = rw c.from_vec.ensures (contained_cycle _ _ (rw c.in-Some.is at c.in_ok-cycle.ensures.some))
