use Rattle.agent_transaction.proofs.SomeRunLemmas.{some_told_run}
use Rattle.agent_transaction.proofs.laws.there_is_a_told_run.Goals as goal

pub returns : goal.returns
returns c = some_told_run
