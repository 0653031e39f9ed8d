-- What is there, with the rest put over it, is what it was with all put over it.
use Rattle.std.proofs.Common.{◌≡◌, drop}
use Rattle.pp_values.specs.Views.{pair_views}
use Rattle.hiera_merge.specs.Merges.{with_pairs}
use Rattle.hiera_merge.proofs.hashing.keyed_each.Given as goal

abbrev pub invariant-loop-key : goal.invariant-loop-key
invariant-loop-key l = with_pairs (pair_views (drop l.key-index l.key-items)) l.keyed ≡ with_pairs (pair_views l.key-items) l.fn.out
