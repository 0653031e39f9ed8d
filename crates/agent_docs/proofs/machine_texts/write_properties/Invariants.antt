use Rattle.std.proofs.Common.{◌≡◌, ◌∷◌, ◌++◌}
use Rattle.json.specs.Token.{begin_object}
use Rattle.agent_machine.specs.Recorded.{recorded}
use Rattle.json_documents.proofs.Outlines.{setting_tokens}
use Rattle.agent_docs.proofs.machine_texts.write_properties.Given as goal

abbrev pub invariant-loop-name : goal.invariant-loop-name
invariant-loop-name l =
    l.out ++ setting_tokens (recorded l.name-iterator) ≡ l.fn.out ++ begin_object ∷ setting_tokens l.properties
