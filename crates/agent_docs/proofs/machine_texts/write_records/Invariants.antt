use Rattle.std.proofs.Common.{◌≡◌, ◌∷◌, ◌++◌}
use Rattle.json.specs.Token.{begin_object}
use Rattle.agent_docs.proofs.RecordTokens.{record_tokens}
use Rattle.agent_docs.proofs.machine_texts.write_records.Given as goal

abbrev pub invariant-loop-text : goal.invariant-loop-text
invariant-loop-text l = l.out ++ record_tokens l.text-iterator ≡ l.fn.out ++ begin_object ∷ record_tokens l.state
