-- The mark of what is left, behind the mark so far, is that of the whole key.
use Rattle.std.proofs.Common.{◌≡◌, length}
use Rattle.hiera_config.specs.Flags.{mark_from, mark_of}
use Rattle.hiera_config.proofs.flags.mark_of.Given as goal

abbrev pub invariant-loop-left : goal.invariant-loop-left
invariant-loop-left l = mark_from l.mark l.left ≡ mark_of l.key

abbrev pub decreases-loop-left : goal.decreases-loop-left
decreases-loop-left l = length l.left
