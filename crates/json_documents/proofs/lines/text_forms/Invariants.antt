use Rattle.std.proofs.Common.{◌≡◌, ◌++◌, map, length}
use Rattle.serde_json.specs.View.{view as json_view}
use Rattle.serde_json.specs.Data.{string}
use Rattle.json_documents.proofs.lines.text_forms.Given as goal

abbrev pub invariant-loop-left : goal.invariant-loop-left
invariant-loop-left l = map json_view l.values.items ++ map string l.left ≡ map string l.texts

abbrev pub decreases-loop-left : goal.decreases-loop-left
decreases-loop-left l = length l.left
