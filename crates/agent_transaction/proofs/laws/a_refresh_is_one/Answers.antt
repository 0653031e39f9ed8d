use Rattle.agent_transaction.proofs.SentenceLemmas.{refreshed_once}
use Rattle.agent_transaction.proofs.laws.a_refresh_is_one.Goals as goal

pub returns : goal.returns
returns c = refreshed_once
