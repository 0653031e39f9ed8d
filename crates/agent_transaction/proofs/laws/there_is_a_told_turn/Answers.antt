use Rattle.agent_transaction.proofs.MadeTurns.{some_told_turn}
use Rattle.agent_transaction.proofs.laws.there_is_a_told_turn.Goals as goal

pub returns : goal.returns
returns c = some_told_turn
