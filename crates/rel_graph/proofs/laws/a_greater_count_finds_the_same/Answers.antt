use Rattle.rel_graph.proofs.CycleLemmas.{in_any_count}
use Rattle.rel_graph.proofs.laws.a_greater_count_finds_the_same.Goals as goal

pub returns : goal.returns
returns c = in_any_count
