-- The machine of a bundle.
use Rattle.std.specs.Prelude.{ℕ, codes, List, [], Option, Some, None, Result, Ok, Err}
use Rattle.agent_docs.specs.MachineMembers.{machine_said as said}
use Rattle.agent_machine.specs.declared.machine_doc.MachineDoc.{MachineDoc}
use Rattle.serde_json.specs.Data.{Data}
use Rattle.serde_json.specs.Find.{get}
use Rattle.site_bundle.specs.Refusals.{Refusal, bad_shape}

-- nothing is recorded, and no call fails
abbrev pub no_machine : MachineDoc
no_machine = record { failing = []; state = [] }

abbrev pub or_bad : Result MachineDoc (List ℕ) → Result MachineDoc Refusal
or_bad (Ok machine) = Ok machine
or_bad (Err path) = Err (bad_shape path)

-- the machine that a document says, or the first of its members that is bad
abbrev pub machine_said : Data → Result MachineDoc Refusal
machine_said d = or_bad (said d)

abbrev pub given_machine : Option Data → Result MachineDoc Refusal
given_machine None = Ok no_machine
given_machine (Some d) = machine_said d

-- the machine of a bundle, which need not be there
abbrev pub machine_of : Data → Result MachineDoc Refusal
machine_of bundle = given_machine (get (codes "machine") bundle)
