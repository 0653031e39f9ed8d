use Rattle.std.proofs.Common.{arith}
use Rattle.json_documents.proofs.OneLines.{one_line_reads}
use Rattle.agent_docs.specs.MachineText.{IsMachineLine}
use Rattle.agent_docs.specs.MachineReading.{machine_in}
use Rattle.agent_docs.proofs.MachinesRead.{machine_one, machine_sound, machine_complete, some_machine}
use Rattle.agent_docs.proofs.machine_texts.read_machine.Goals as goal

pub returns : goal.returns
returns c =
    one_line_reads IsMachineLine machine_in machine_one machine_sound machine_complete some_machine c.args.text.now
    (omega arith) _ c.read_whole.ensures
