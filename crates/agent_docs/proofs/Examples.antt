-- Reports and machines, their texts, and what is read of JSON as a machine.
use Rattle.std.proofs.Common.{◌≡◌, ℕ, Bool, true, false, List, [], ◌∷◌, Option, Some, None, Ok, Err, refl, codes}
use Rattle.std.specs.Fmt.{digits}
use Rattle.serde_json.proofs.OnLiterals.{serde_json_on_literals}
use Rattle.serde_json.specs.Data as j
use Rattle.serde_json.specs.Written.{compact_text}
use Rattle.pp_values.specs.Datum as d
use Rattle.pp_values.specs.declared.reference.Reference.{Reference}
use Rattle.agent_machine.specs.declared.status.Status.{Status}
use Rattle.agent_machine.specs.declared.status.Status.TheVariants as status
use Rattle.agent_machine.specs.declared.report_line.ReportLine.{ReportLine}
use Rattle.agent_docs.specs.ReportText.{has_changed, has_failed, was_noop, is_first, line_object, line_data, report_object, report_data, report_text, first_object, first_data}
use Rattle.agent_docs.specs.ReportReading.{reference_said, status_said}
use Rattle.agent_docs.specs.MachineText.{machine_object, machine_data, machine_text}
use Rattle.agent_docs.specs.MachineMembers.{texts_from, with_properties, with_records, members_said, machine_said}

-- ---- reports

abbrev about : List ℕ → List ℕ → Reference
about kind title = record { kind = kind; title = title }

abbrev told : Reference → Status → List (List ℕ) → Bool → Option (List ℕ) → ReportLine
told item status changes refreshed fault = record {
  item = item;
  status = status;
  changes = changes;
  refreshed = refreshed;
  fault = fault;
}

abbrev reports : List ReportLine → List ℕ
reports lines = report_text (record { node = codes "n"; lines = lines })

nothing_done : reports [] ≡ codes "{\"changed\":0,\"failed\":0,\"node\":\"n\",\"noop\":0,\"report\":2,\"resources\":[]}"
unfolding report_data report_object digits serde_json_on_literals
nothing_done = refl

-- what a file would have been changed in, and a service that was not changed
looked_at : reports (told (about (codes "file") (codes "/a")) status.Noop (codes "content" ∷ []) false None ∷
    told (about (codes "service") (codes "s")) status.Unchanged [] false None ∷ [])
    ≡ codes "{\"changed\":0,\"failed\":0,\"node\":\"n\",\"noop\":1,\"report\":2,\"resources\":[{\"changes\":[\"content\"],\"fault\":null,\"ref\":\"File[/a]\",\"refreshed\":false,\"status\":\"noop\"},{\"changes\":[],\"fault\":null,\"ref\":\"Service[s]\",\"refreshed\":false,\"status\":\"unchanged\"}]}"
unfolding report_data report_object line_data line_object digits serde_json_on_literals
looked_at = refl

-- a call that failed, a resource behind it, and one that was run
failed_first : reports (told (about (codes "package") (codes "p")) status.Failed [] false (Some (codes "write ensure")) ∷
    told (about (codes "service") (codes "s")) status.Skipped [] false None ∷
    told (about (codes "notify") (codes "n")) status.Changed (codes "run" ∷ []) false None ∷ [])
    ≡ codes "{\"changed\":1,\"failed\":1,\"node\":\"n\",\"noop\":0,\"report\":2,\"resources\":[{\"changes\":[],\"fault\":\"write ensure\",\"ref\":\"Package[p]\",\"refreshed\":false,\"status\":\"failed\"},{\"changes\":[],\"fault\":null,\"ref\":\"Service[s]\",\"refreshed\":false,\"status\":\"skipped\"},{\"changes\":[\"run\"],\"fault\":null,\"ref\":\"Notify[n]\",\"refreshed\":false,\"status\":\"changed\"}]}"
unfolding report_data report_object line_data line_object digits serde_json_on_literals
failed_first = refl

-- what counts as changed: a refresh alone, and changes before a call that failed; not what was only looked at
counted : (has_changed (told (about [] []) status.Unchanged [] true None) ≡ true)
    × (has_changed (told (about [] []) status.Unchanged [] false None) ≡ false)
    × (has_changed (told (about [] []) status.Failed (codes "mode" ∷ []) false (Some (codes "write owner"))) ≡ true)
    × (has_changed (told (about [] []) status.Noop (codes "mode" ∷ []) true None) ≡ false)
    × (was_noop (told (about [] []) status.Noop (codes "mode" ∷ []) false None) ≡ true)
    × (was_noop (told (about [] []) status.Unchanged [] false None) ≡ false)
    × (has_failed (told (about [] []) status.Failed [] false (Some (codes "refresh"))) ≡ true)
    × (has_failed (told (about [] []) status.Skipped [] false None) ≡ false)
counted = (refl, refl, refl, refl, refl, refl, refl, refl)

-- the first version has no count of what was only looked at
of_version_1 : (compact_text (first_data (record {
  node = codes "n";
  lines = told (about (codes "file") (codes "/a")) status.Changed (codes "content" ∷ []) false None ∷ [];
})) ≡ codes "{\"changed\":1,\"failed\":0,\"node\":\"n\",\"report\":1,\"resources\":[{\"changes\":[\"content\"],\"fault\":null,\"ref\":\"File[/a]\",\"refreshed\":false,\"status\":\"changed\"}]}")
    × (is_first (record { node = codes "n"; lines = told (about (codes "file") (codes "/a")) status.Noop [] false None ∷ [] }) ≡ false)
unfolding first_data first_object line_data line_object digits serde_json_on_literals
of_version_1 = (refl, refl)

-- references and words as they are read: a kind in its printed form, a title with brackets in it; no others
read_back : (reference_said (codes "Web::Vhost[a[0]]") ≡ Some (about (codes "web::vhost") (codes "a[0]")))
    × (reference_said (codes "File[/a") ≡ None)
    × (reference_said (codes "[a]") ≡ None)
    × (status_said (codes "skipped") ≡ Some status.Skipped)
    × (status_said (codes "Skipped") ≡ None)
read_back = (refl, refl, refl, refl, refl)

-- ---- machines

machines : (machine_text (record { failing = []; state = [] }) ≡ codes "{\"failing\":[],\"machine\":1,\"state\":{}}")
    × (machine_text (record {
      failing = codes "write File[/a] mode" ∷ [];
      state = (codes "File[/a]", (codes "mode", d.text (codes "0644")) ∷ []) ∷ [];
    }) ≡ codes "{\"failing\":[\"write File[/a] mode\"],\"machine\":1,\"state\":{\"File[/a]\":{\"mode\":\"0644\"}}}")
unfolding machine_data machine_object digits serde_json_on_literals
machines = (refl, refl)

abbrev one : List ℕ → j.Data → j.Data
one key e = j.object (j.member key e j.no_members)

abbrev number_1 : j.Data
number_1 = j.number (j.unsigned 1)

-- what is not given is none, and other members do not count
given : (machine_said (j.object j.no_members) ≡ Ok (record { failing = []; state = [] }))
    × (machine_said (one (codes "x") j.null) ≡ Ok (record { failing = []; state = [] }))
    × (machine_said (one (codes "failing") (j.array (j.item (j.string (codes "refresh Exec[e]")) j.no_items)))
    ≡ Ok (record { failing = codes "refresh Exec[e]" ∷ []; state = [] }))
    × (machine_said (one (codes "state") (one (codes "File[/a]") (one (codes "mode") (j.string (codes "0644")))))
    ≡ Ok (record { failing = []; state = (codes "File[/a]", (codes "mode", d.text (codes "0644")) ∷ []) ∷ [] }))
unfolding members_said texts_from with_records with_properties serde_json_on_literals
given = (refl, refl, refl, refl)

-- the path of what is bad, at each level; what fails comes before the state
paths : (machine_said j.null ≡ Err (codes "machine"))
    × (machine_said (one (codes "failing") j.null) ≡ Err (codes "machine.failing"))
    × (machine_said (one (codes "failing") (j.array (j.item (j.string []) (j.item number_1 j.no_items))))
    ≡ Err (codes "machine.failing.1"))
    × (machine_said (one (codes "state") j.null) ≡ Err (codes "machine.state"))
    × (machine_said (one (codes "state") (one (codes "File[/a]") j.null)) ≡ Err (codes "machine.state.File[/a]"))
    × (machine_said (one (codes "state") (one (codes "File[/a]") (one (codes "mode") (one (codes "__p") j.null))))
    ≡ Err (codes "machine.state.File[/a].mode"))
    × (machine_said (j.object (j.member (codes "failing") j.null (j.member (codes "state") j.null j.no_members)))
    ≡ Err (codes "machine.failing"))
unfolding members_said texts_from with_records with_properties digits serde_json_on_literals
paths = (refl, refl, refl, refl, refl, refl, refl)
