-- The items that are left, behind those that were found, give what all give.
use Rattle.std.proofs.Common.{◌≡◌, ◌++◌, length, option_map}
use Rattle.serde_json.specs.View.{items_view}
use Rattle.journal_reading.specs.EntryReading.{exports_said}
use Rattle.journal_reading.proofs.exports.exports_said.Given as goal

abbrev pub invariant-loop-left : goal.invariant-loop-left
invariant-loop-left l = option_map (λ after. l.exports ++ after) (exports_said (items_view l.left)) ≡ exports_said (items_view l.items)

abbrev pub decreases-loop-left : goal.decreases-loop-left
decreases-loop-left l = length l.left
