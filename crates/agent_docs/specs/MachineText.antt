-- The text of a machine: compact JSON, with the members of each object in byte order.
use Rattle.std.specs.Prelude.{◌≡◌, ◌≤◌, ℕ, Bool, ◌&&◌, IsTrue, List, [], ◌∷◌, map, codes}
use Rattle.std.specs.List.{list_all}
use Rattle.serde_json.specs.Data.{Data, Members, string, array, object, no_members, member, depth}
use Rattle.serde_json.specs.Read.{max_depth}
use Rattle.serde_json.specs.View.{items_of}
use Rattle.serde_json.specs.Written.{compact_text}
use Rattle.pp_values.specs.Rising.{is_rising}
use Rattle.pp_values.specs.Settings.{Setting, setting_names}
use Rattle.agent_machine.specs.States.{State}
use Rattle.agent_machine.specs.declared.machine_doc.MachineDoc.{MachineDoc}
use Rattle.json_values.specs.ValueForm.{setting_members}
use Rattle.json_documents.specs.Tokens.{index_data}
use Rattle.json_documents.specs.LinesOfText.{IsOneLine}
use Rattle.json_documents.specs.ProperValues.{have_proper}

-- each record under the text of its reference: the properties by name, each with the form of its value
abbrev pub record_members : State → Members
record_members [] = no_members
record_members (r ∷ rs) = member r.0 (object (setting_members r.1)) (record_members rs)

-- a machine, from the forms of its parts; 1 is the version of this form
unfoldable pub machine_object : Data → Data → Data
machine_object failing state =
    object (member (codes "failing") failing
    (member (codes "machine") (index_data 1)
    (member (codes "state") state no_members)))

unfoldable pub machine_data : MachineDoc → Data
machine_data m = machine_object (array (items_of (map string m.failing))) (object (record_members m.state))

-- without a line feed at the end
abbrev pub machine_text : MachineDoc → List ℕ
machine_text m = compact_text (machine_data m)

-- ---- which texts are machines

-- the properties of a resource stand by name in byte order, and their values have a form
abbrev pub are_properties : List ℕ × List Setting → Bool
are_properties r = is_rising (setting_names r.1) && have_proper r.1

-- what each machine is: its records stand by text in byte order
abbrev pub IsMachine : MachineDoc → Type 0
IsMachine m = IsTrue (is_rising (map (λ r. r.0) m.state)) × IsTrue (list_all are_properties m.state)

-- the line of a machine whose values nest no deeper than a reader of JSON goes
abbrev pub IsMachineLine : MachineDoc → List ℕ → Type 0
IsMachineLine m text = IsMachine m × (depth (machine_data m) ≤ max_depth) × (text ≡ machine_text m)

-- such a line with a line feed at its end
abbrev pub IsMachineText : MachineDoc → List ℕ → Type 0
IsMachineText = IsOneLine IsMachineLine
