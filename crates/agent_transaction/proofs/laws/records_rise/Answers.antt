use Rattle.std.proofs.Common.{subst}
use Rattle.agent_transaction.proofs.RecordLemmas.{Rises, rises_from}
use Rattle.agent_transaction.proofs.laws.records_rise.Goals as goal

pub returns : goal.returns
returns c = subst Rises c.as_map.ensures (rises_from c.as_map.result.now.entries c.iter-records.ensures.ordered)
