-- What the documents of machines tell.
use Rattle.std.specs.Prelude.{◌≡◌}
use Rattle.agent_machine.specs.declared.machine_doc.MachineDoc.{MachineDoc}
use Rattle.agent_docs.specs.MachineText.{IsMachine, machine_text}

-- No two machines have one text.
abbrev pub MachinesAreToldApart : Type 0
MachinesAreToldApart = (m n : MachineDoc) → IsMachine m → IsMachine n → machine_text m ≡ machine_text n → m ≡ n
