-- The codes by which a proof tells machines apart.
use Rattle.std.specs.Prelude.{ℕ, List, Option, refl}
use Rattle.std.specs.Coded.{Coded, code_by, coded×, coded_ℕ, coded_list, coded_option}
use Rattle.pp_values.specs.Codes.{coded_text}
use Rattle.pp_values.specs.Settings.{Setting}
use Rattle.agent_machine.specs.Contents.{Content}
use Rattle.agent_machine.specs.Machines.{Told}
use Rattle.agent_machine.specs.StateCodes.{coded_state}
use Rattle.agent_machine.specs.declared.machine_doc.MachineDoc.{MachineDoc}

abbrev pub coded_document : Coded MachineDoc
coded_document =
    code_by (List (List ℕ) × List (List ℕ × List Setting)) (coded× (coded_list coded_text) coded_state)
    (λ d. (d.failing, d.state)) (λ p. record { failing = p.0; state = p.1 }) (λ _. refl)

abbrev pub coded_content : Coded Content
coded_content =
    code_by (MachineDoc × (ℕ × List ℕ)) (coded× coded_document (coded× coded_ℕ (coded_list coded_ℕ)))
    (λ c. (c.document, (c.calls, c.failing))) (λ p. record { document = p.0; calls = p.1.0; failing = p.1.1 })
    (λ _. refl)

abbrev pub coded_told : Coded Told
coded_told =
    code_by (Option Content × ℕ) (coded× (coded_option coded_content) coded_ℕ) (λ m. (m.content, m.faults))
    (λ p. record { content = p.0; faults = p.1 }) (λ _. refl)
