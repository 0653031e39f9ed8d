-- What is there, with the rest put on it, is what was there with all put on it.
use Rattle.std.proofs.Common.{◌≡◌}
use Rattle.std.specs.Vec.Iter.{into_iter_items}
use Rattle.pp_values.specs.Views.{pair_views}
use Rattle.hiera_merge.specs.DeepSteps.{put_stacks, stacks}
use Rattle.hiera_merge.proofs.deepening.put_pairs.Given as goal

abbrev pub invariant-loop-key : goal.invariant-loop-key
invariant-loop-key l =
    put_stacks (pair_views (into_iter_items l.key-iterator)) (stacks l.columns.items)
    ≡ put_stacks l.fn.pairs (stacks l.initial.columns.items)
