-- What holds of all of them is told by those that are left.
use Rattle.std.proofs.Common.{◌≡◌, length}
use Rattle.res_core.specs.AttributeViews.{settings}
use Rattle.res_core.specs.PlainAttributes.{are_plain}
use Rattle.res_core.proofs.plain_resource.has_plain_values.Given as goal

abbrev pub invariant-loop-left : goal.invariant-loop-left
invariant-loop-left l = are_plain (settings l.attributes) ≡ are_plain (settings l.left)

abbrev pub decreases-loop-left : goal.decreases-loop-left
decreases-loop-left l = length l.left
