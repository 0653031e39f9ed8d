-- What is left decides.
use Rattle.std.proofs.Common.{◌≡◌, length}
use Rattle.eval_world.specs.Outcomes.{same}
use Rattle.eval_classes.specs.Listing.{run_all}
use Rattle.eval_classes.specs.Stacks.{stack_of}
use Rattle.eval_classes.proofs.included.run_all.Given as goal

abbrev pub invariant-loop-next : goal.invariant-loop-next
invariant-loop-next g l =
    run_all (g.M.Meaning.within l.forms.left) (stack_of same l.fn.listed.items) l.fn.world
    ≡ run_all (g.M.Meaning.within l.forms.left) (stack_of same l.left.items) l.world

abbrev pub decreases-loop-next : goal.decreases-loop-next
decreases-loop-next g l = length l.left.items
