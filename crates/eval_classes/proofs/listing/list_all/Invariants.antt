-- What is left decides.
use Rattle.std.proofs.Common.{◌≡◌, [], length}
use Rattle.eval_world.specs.Outcomes.{same}
use Rattle.eval_classes.specs.Listing.{list_all}
use Rattle.eval_classes.specs.Stacks.{stack_of, entered_seen}
use Rattle.eval_classes.proofs.listing.list_all.Given as goal

abbrev pub invariant-loop-class : goal.invariant-loop-class
invariant-loop-class l =
    list_all (stack_of entered_seen l.fn.classes.items) l.given-2 l.at l.from-2 [] l.fn.world
    ≡ list_all (stack_of entered_seen l.left.items) l.given l.at l.from (stack_of same l.done.items) l.world

abbrev pub decreases-loop-class : goal.decreases-loop-class
decreases-loop-class l = length l.left.items
