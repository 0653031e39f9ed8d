use Rattle.agent_transaction.proofs.TaskLemmas.{none_put}
use Rattle.agent_transaction.proofs.ordering.put_reference.Goals as goal

pub returns-in-None : goal.returns-in-None
returns-in-None c = none_put c.args.resources.now c.args.index c.args.references.now.items c.in-None.ensures
