use Rattle.rel_graph.proofs.CycleLemmas.{way_in_any_count}
use Rattle.rel_graph.proofs.laws.a_greater_count_finds_the_same_way.Goals as goal

pub returns : goal.returns
returns c = way_in_any_count
