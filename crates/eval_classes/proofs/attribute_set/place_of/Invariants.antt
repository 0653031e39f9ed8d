-- What is left decides.
use Rattle.std.proofs.Common.{◌≡◌, ◌+◌, length}
use Rattle.eval_classes.specs.AttributeSets.{place_in}
use Rattle.res_core.specs.AttributeViews.{settings}
use Rattle.eval_classes.proofs.Places.{further_on}
use Rattle.eval_classes.proofs.attribute_set.place_of.Given as goal

abbrev pub invariant-loop-item : goal.invariant-loop-item
invariant-loop-item l =
    (place_in l.name (settings l.items) ≡ further_on l.place (place_in l.name (settings l.rest)))
    × (l.place + length l.rest ≡ length l.items)

abbrev pub decreases-loop-item : goal.decreases-loop-item
decreases-loop-item l = length l.rest
