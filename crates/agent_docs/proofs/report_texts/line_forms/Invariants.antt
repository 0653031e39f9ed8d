use Rattle.std.proofs.Common.{◌≡◌, ◌++◌, map, length}
use Rattle.serde_json.specs.View.{view as json_view}
use Rattle.agent_docs.specs.ReportText.{line_data}
use Rattle.agent_docs.proofs.report_texts.line_forms.Given as goal

abbrev pub invariant-loop-left : goal.invariant-loop-left
invariant-loop-left l = map json_view l.values.items ++ map line_data l.left ≡ map line_data l.lines

abbrev pub decreases-loop-left : goal.decreases-loop-left
decreases-loop-left l = length l.left
