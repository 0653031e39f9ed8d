-- The members that are left, behind those that were found, give what all give.
use Rattle.std.proofs.Common.{◌≡◌, ◌++◌, option_map}
use Rattle.serde_json.specs.View.{members_view}
use Rattle.res_core.specs.AttributeViews.{settings}
use Rattle.catalog_reading.specs.CatalogParts.{settings_said}
use Rattle.catalog_reading.proofs.resources.attributes_said.Given as goal

abbrev pub invariant-loop-name : goal.invariant-loop-name
invariant-loop-name l =
    option_map (λ after. settings l.attributes.items ++ after) (settings_said (members_view l.name-iterator))
    ≡ settings_said (members_view l.members.entries)
