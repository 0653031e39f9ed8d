-- The first value in what is left is that of all.
use Rattle.std.proofs.Common.{◌≡◌, length}
use Rattle.hiera_config.specs.Sound.{first_in, SkipsAll}
use Rattle.hiera_config.proofs.highest.highest_in.Given as goal

abbrev pub invariant-loop-left : goal.invariant-loop-left
invariant-loop-left l = (first_in l.files l.key l.left ≡ first_in l.files l.key l.plan) × SkipsAll l.files l.left

abbrev pub decreases-loop-left : goal.decreases-loop-left
decreases-loop-left l = length l.left
