use Rattle.agent_transaction.proofs.SerialSentence.{run_says}
use Rattle.agent_transaction.proofs.laws.a_report_says_what_was_done.Goals as goal

pub returns : goal.returns
returns c = run_says
