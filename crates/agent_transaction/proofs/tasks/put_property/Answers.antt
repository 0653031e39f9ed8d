use Rattle.agent_transaction.proofs.TaskLemmas.{plain_set}
use Rattle.agent_transaction.proofs.tasks.put_property.Goals as goal

pub put_want-requires : goal.put_want-requires
put_want-requires c = plain_set c.args.attributes.now _ _ c.requires c.in-Some.ensures
