-- How the line of a machine is read: as JSON, as the machine that this says, and by a comparison with its own line.
use Rattle.std.specs.Prelude.{ℕ, List, Option, Some, None, option_and_then, Result, Ok, Err, if◌then◌else◌}
use Rattle.std.specs.Str.{bytes_eq}
use Rattle.serde_json.specs.Data.{Data}
use Rattle.serde_json.specs.Read.{read}
use Rattle.agent_machine.specs.declared.machine_doc.MachineDoc.{MachineDoc}
use Rattle.agent_docs.specs.MachineMembers.{machine_said}
use Rattle.agent_docs.specs.MachineText.{machine_text}

abbrev pub unless_refused : {A E : Type 0} → Result A E → Option A
unless_refused (Ok a) = Some a
unless_refused (Err path) = None

abbrev pub said_by : Data → Option MachineDoc
said_by d = unless_refused (machine_said d)

-- a second spelling of the line is refused
abbrev pub if_written : List ℕ → MachineDoc → Option MachineDoc
if_written line m = if bytes_eq (machine_text m) line then Some m else None

abbrev pub machine_written : List ℕ → Data → Option MachineDoc
machine_written line d = option_and_then (if_written line) (said_by d)

abbrev pub machine_in : List ℕ → Option MachineDoc
machine_in line = option_and_then (machine_written line) (read line)
