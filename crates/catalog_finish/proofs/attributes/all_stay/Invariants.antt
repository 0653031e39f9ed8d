use Rattle.std.proofs.Common.{◌≡◌, length}
use Rattle.std.specs.List.{list_all}
use Rattle.res_core.specs.AttributeViews.{settings}
use Rattle.catalog_finish.specs.Attributes.{stays}
use Rattle.catalog_finish.proofs.attributes.all_stay.Given as goal

abbrev pub invariant-loop-left : goal.invariant-loop-left
invariant-loop-left l = list_all stays (settings l.left) ≡ list_all stays (settings l.attributes)

abbrev pub decreases-loop-left : goal.decreases-loop-left
decreases-loop-left l = length l.left
