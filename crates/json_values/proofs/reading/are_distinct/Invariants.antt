use Rattle.std.proofs.Common.{◌≡◌, length}
use Rattle.pp_values.specs.Keys.{are_distinct}
use Rattle.pp_values.specs.Views.{pair_views}
use Rattle.json_values.proofs.reading.are_distinct.Given as goal

abbrev pub invariant-loop-left : goal.invariant-loop-left
invariant-loop-left l = are_distinct (pair_views l.left) ≡ are_distinct (pair_views l.pairs)

abbrev pub decreases-loop-left : goal.decreases-loop-left
decreases-loop-left l = length l.left
