-- The items that are left, behind those that were found, give what all give.
use Rattle.std.proofs.Common.{◌≡◌, ◌++◌, length, option_map}
use Rattle.serde_json.specs.Find.{as_str}
use Rattle.serde_json.specs.View.{items_view}
use Rattle.catalog_reading.specs.CatalogParts.{each_said}
use Rattle.catalog_reading.proofs.resources.texts_said.Given as goal

abbrev pub invariant-loop-left : goal.invariant-loop-left
invariant-loop-left l =
    option_map (λ after. l.texts.items ++ after) (each_said as_str (items_view l.left))
    ≡ each_said as_str (items_view l.items)

abbrev pub decreases-loop-left : goal.decreases-loop-left
decreases-loop-left l = length l.left
