use Rattle.agent_transaction.proofs.OneRunLemmas.{one_told_run}
use Rattle.agent_transaction.proofs.laws.a_told_run_is_one.Goals as goal

pub returns : goal.returns
returns c = one_told_run
