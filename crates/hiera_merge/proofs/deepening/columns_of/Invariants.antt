-- What is there, with the rest put on it, is all; and no more than was put there.
use Rattle.std.proofs.Common.{◌≡◌, ◌+◌, ◌≤◌, []}
use Rattle.std.specs.Vec.Iter.{into_iter_items}
use Rattle.pp_values.specs.Sizes.{data_size}
use Rattle.pp_values.specs.Views.{views}
use Rattle.hiera_merge.specs.DeepSteps.{put_hashes, stacks, stacks_size}
use Rattle.hiera_merge.proofs.deepening.columns_of.Given as goal

abbrev pub invariant-loop-value : goal.invariant-loop-value
invariant-loop-value l =
    (put_hashes (views (into_iter_items l.value-iterator)) (stacks l.columns.items)
    ≡ put_hashes (views l.fn.lower.items) [])
    × (stacks_size (stacks l.columns.items) + data_size (views (into_iter_items l.value-iterator))
    ≤ data_size (views l.fn.lower.items))
