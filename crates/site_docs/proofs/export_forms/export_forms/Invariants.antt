use Rattle.std.proofs.Common.{◌≡◌, ◌++◌, map, length}
use Rattle.serde_json.specs.View.{view as json_view}
use Rattle.site_docs.specs.JournalText.{export_data}
use Rattle.site_docs.proofs.export_forms.export_forms.Given as goal

abbrev pub invariant-loop-left : goal.invariant-loop-left
invariant-loop-left l = map json_view l.values.items ++ map export_data l.left ≡ map export_data l.exports

abbrev pub decreases-loop-left : goal.decreases-loop-left
decreases-loop-left l = length l.left
