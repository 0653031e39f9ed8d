use Rattle.agent_transaction.proofs.SecondRunLemmas.{second_run_changes_nothing}
use Rattle.agent_transaction.proofs.laws.a_second_run_changes_nothing.Goals as goal

pub returns : goal.returns
returns c = second_run_changes_nothing
