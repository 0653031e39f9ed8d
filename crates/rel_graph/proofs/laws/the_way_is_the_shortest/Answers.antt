use Rattle.rel_graph.proofs.CycleLemmas.{way_is_told}
use Rattle.rel_graph.proofs.laws.the_way_is_the_shortest.Goals as goal

pub returns : goal.returns
returns c = way_is_told
