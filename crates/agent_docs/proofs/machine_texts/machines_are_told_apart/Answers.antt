use Rattle.agent_docs.proofs.MachinesRead.{machines_told_apart}
use Rattle.agent_docs.proofs.machine_texts.machines_are_told_apart.Goals as goal

pub returns : goal.returns
returns c = machines_told_apart
