use Rattle.eval_classes.proofs.Enough.{chains_alike, comes_alike, sources_alike}
use Rattle.eval_classes.proofs.laws.ways_suffice.Goals as goal

pub returns-clause-comes_to : goal.returns-clause-comes_to
returns-clause-comes_to c = comes_alike

pub returns-clause-sources : goal.returns-clause-sources
returns-clause-sources c = sources_alike

pub returns-clause-chain : goal.returns-clause-chain
returns-clause-chain c = chains_alike
