use Rattle.std.proofs.Common.{◌≡◌, ◌∷◌, ◌++◌, map, length}
use Rattle.json.specs.Token.{begin_array}
use Rattle.serde_json.specs.Data.{string}
use Rattle.json_documents.proofs.Outlines.{item_tokens}
use Rattle.agent_docs.proofs.machine_texts.write_texts.Given as goal

abbrev pub invariant-loop-left : goal.invariant-loop-left
invariant-loop-left l = l.out ++ item_tokens (map string l.left) ≡ l.fn.out ++ begin_array ∷ item_tokens (map string l.texts)

abbrev pub decreases-loop-left : goal.decreases-loop-left
decreases-loop-left l = length l.left
