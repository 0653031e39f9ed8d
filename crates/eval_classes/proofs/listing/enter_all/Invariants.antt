-- What is left decides.
use Rattle.std.proofs.Common.{◌≡◌, length}
use Rattle.eval_classes.specs.Listing.{enter_all}
use Rattle.eval_classes.specs.Stacks.{stack_of, class_seen, entered_seen}
use Rattle.eval_classes.proofs.listing.enter_all.Given as goal

abbrev pub invariant-loop-class : goal.invariant-loop-class
invariant-loop-class l =
    enter_all (stack_of class_seen l.fn.classes.items) l.fn.parent.number (stack_of entered_seen l.fn.done.items) l.fn.world
    ≡ enter_all (stack_of class_seen l.left.items) l.parent.number (stack_of entered_seen l.all.items) l.world

abbrev pub decreases-loop-class : goal.decreases-loop-class
decreases-loop-class l = length l.left.items
