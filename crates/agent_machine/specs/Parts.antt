-- Parts of a machine: what the turn of one resource needs of it.
use Rattle.std.specs.Prelude.{◌≡◌, ℕ, ◌≤◌, max, List, [], Option, None, Some, option_map, codes}
use Rattle.std.specs.FinMap.{put}
use Rattle.pp_values.specs.Rising.{text_cmp}
use Rattle.pp_values.specs.Settings.{Setting}
use Rattle.pp_values.specs.Words.{reference_text}
use Rattle.pp_values.specs.declared.reference.Reference.{Reference}
use Rattle.agent_machine.specs.Contents.{Content, with_state}
use Rattle.agent_machine.specs.Machines.{Told}
use Rattle.agent_machine.specs.States.{State, record_of, without}

-- the state with this record in the place of what it has under that text, or with none
abbrev pub with_record_at : List ℕ → Option (List Setting) → State → State
with_record_at key None state = without key state
with_record_at key (Some properties) state = put text_cmp key properties state

-- the state with the record of a resource as another state has it
abbrev pub copied : Reference → State → State → State
copied what from into = with_record_at (reference_text what) (record_of what from) into

-- the file of a `creates`
abbrev pub file_of : List ℕ → Reference
file_of path = record { kind = codes "file"; title = path }

abbrev pub file_part : Option (List ℕ) → State → State
file_part None state = []
file_part (Some path) state = copied (file_of path) state []

-- A part holds the record of the resource and that of the file, and nothing else.
abbrev pub part_state : Reference → Option (List ℕ) → State → State
part_state what creates state = copied what state (file_part creates state)

-- the same calls fail, and calls are counted on
abbrev pub part_content : Reference → Option (List ℕ) → Content → Content
part_content what creates c = with_state (part_state what creates c.document.state) c

-- a part tells its content where the machine does, and counts faults on from those of the machine
abbrev pub part_of : Reference → Option (List ℕ) → Told → Told
part_of what creates m = record { content = option_map (part_content what creates) m.content; faults = m.faults }

-- the record of the resource comes back, and the rest of the document stays
abbrev pub content_back : Reference → Content → Content → Content
content_back what part c = record {
  document = record { failing = c.document.failing; state = copied what part.document.state c.document.state };
  calls = max c.calls part.calls;
  failing = c.failing;
}

abbrev pub told_back : Reference → Option Content → Option Content → Option Content
told_back what None whole = whole
told_back what (Some part) whole = option_map (content_back what part) whole

-- a part comes back to a machine, which counts at least as many faults as either did
pub record TakesBack (what : Reference) (part before after : Told) : Type 0 where
  pub content : after.content ≡ told_back what part.content before.content
  pub own_faults : before.faults ≤ after.faults
  pub part_faults : part.faults ≤ after.faults
