-- Where those that are left are so, all are.
use Rattle.std.proofs.Common.{length}
use Rattle.pp_values.specs.Views.{views}
use Rattle.hiera_merge.specs.DeepSteps.{AreKeyed}
use Rattle.hiera_merge.proofs.deepening.are_keyed.Given as goal

abbrev pub invariant-loop-left : goal.invariant-loop-left
invariant-loop-left l = AreKeyed (views l.left) → AreKeyed (views l.values)

abbrev pub decreases-loop-left : goal.decreases-loop-left
decreases-loop-left l = length l.left
