-- The maps have the pairs from the place on.
use Rattle.std.proofs.Common.{◌≡◌, ◌≤◌, drop, length}
use Rattle.pp_values.specs.Datum.{Datum}
use Rattle.pp_values.specs.Keys.{value_at}
use Rattle.pp_values.specs.Views.{pair_views}
use Rattle.pp_ops.specs.Indexes.{indexed}
use Rattle.pp_ops.proofs.key_index.KeyIndex.of_pairs.Given as goal

abbrev pub invariant-loop-at : goal.invariant-loop-at
invariant-loop-at l =
    (l.at ≤ length l.pairs)
    × ((k : Datum) → indexed k l.numbers l.texts ≡ value_at k (pair_views (drop l.at l.pairs)))

abbrev pub decreases-loop-at : goal.decreases-loop-at
decreases-loop-at l = l.at
