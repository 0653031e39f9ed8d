-- What was found, and what is in the rest of the plan, is what was there and what is in all of it.
use Rattle.std.proofs.Common.{◌≡◌, ◌++◌, length}
use Rattle.hiera_config.specs.Found.{source_views}
use Rattle.hiera_config.specs.Sound.{had_in, SkipsAll}
use Rattle.hiera_config.proofs.planned.add_in_plan.Given as goal

abbrev pub invariant-loop-left : goal.invariant-loop-left
invariant-loop-left l =
    (source_views l.found.items ++ had_in l.files l.key l.left
    ≡ source_views l.initial.found.items ++ had_in l.files l.key l.plan)
    × SkipsAll l.files l.left

abbrev pub decreases-loop-left : goal.decreases-loop-left
decreases-loop-left l = length l.left
