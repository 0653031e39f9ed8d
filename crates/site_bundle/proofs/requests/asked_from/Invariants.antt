-- The items that are left lead to what all of them lead to.
use Rattle.std.proofs.Common.{◌≡◌, [], length}
use Rattle.serde_json.specs.View.{items_view}
use Rattle.site_bundle.specs.RequestsOf.{asked_from}
use Rattle.site_bundle.proofs.requests.asked_from.Given as goal

abbrev pub invariant-loop-left : goal.invariant-loop-left
invariant-loop-left l = asked_from l.found (items_view l.left) ≡ asked_from [] (items_view l.items)

abbrev pub decreases-loop-left : goal.decreases-loop-left
decreases-loop-left l = length l.left
