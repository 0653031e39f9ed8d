-- The measure: the size of all values. The loop: what is there, with the rest, is what all gives.
use Rattle.std.proofs.Common.{◌≡◌, ◌+◌, ◌*◌, ◌≤◌, ◌++◌, []}
use Rattle.std.specs.Vec.Iter.{into_iter_items}
use Rattle.pp_values.specs.Sizes.{datum_size, data_size, pairs_size}
use Rattle.pp_values.specs.Views.{view, views, pair_views}
use Rattle.hiera_merge.specs.DeepSteps.{over, stacks, stacks_size}
use Rattle.hiera_merge.proofs.deepening.+deep.Given as goal

abbrev pub decreases-merged_up : goal.decreases-merged_up
decreases-merged_up l = 4 * (datum_size (view l.high) + data_size (views l.lower.items)) + 3

abbrev pub decreases-hashes_up : goal.decreases-hashes_up
decreases-hashes_up l = 4 * (data_size (views l.lower.items) + pairs_size l.high) + 2

abbrev pub decreases-columns_merged : goal.decreases-columns_merged
decreases-columns_merged l = 4 * stacks_size (stacks l.columns.items) + 1

abbrev pub invariant-columns_merged-loop-column : goal.invariant-columns_merged-loop-column
invariant-columns_merged-loop-column l =
    (pair_views l.out.items ++ over (stacks (into_iter_items l.column-iterator)) [] ≡ over (stacks l.fn.columns.items) [])
    × (stacks_size (stacks (into_iter_items l.column-iterator)) ≤ stacks_size (stacks l.fn.columns.items))

abbrev pub decreases-column_merged : goal.decreases-column_merged
decreases-column_merged l = 4 * (datum_size (view l.column.high) + data_size (views l.column.lower.items)) + 4
