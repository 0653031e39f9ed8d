use Rattle.std.proofs.Common.{◌≡◌, length}
use Rattle.pp_values.specs.Keys.{lacks}
use Rattle.pp_values.specs.Views.{view, pair_views}
use Rattle.json_values.proofs.reading.lacks.Given as goal

abbrev pub invariant-loop-left : goal.invariant-loop-left
invariant-loop-left l = lacks (view l.key) (pair_views l.left) ≡ lacks (view l.key) (pair_views l.pairs)

abbrev pub decreases-loop-left : goal.decreases-loop-left
decreases-loop-left l = length l.left
