use Rattle.agent_transaction.proofs.ToldLemmas.{turn_told}
use Rattle.agent_transaction.proofs.laws.a_told_turn_is_one.Goals as goal

pub returns : goal.returns
returns c = turn_told
