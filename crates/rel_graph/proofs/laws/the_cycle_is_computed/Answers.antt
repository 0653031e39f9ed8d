use Rattle.rel_graph.proofs.CycleLemmas.{told_in}
use Rattle.rel_graph.proofs.laws.the_cycle_is_computed.Goals as goal

pub returns : goal.returns
returns c = told_in
