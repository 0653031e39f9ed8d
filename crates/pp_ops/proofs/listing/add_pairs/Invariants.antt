-- What the rest from the index on adds to what is there, or tells, is what all of it does.
use Rattle.std.proofs.Common.{◌≡◌, ◌++◌, drop, map}
use Rattle.pp_values.specs.Views.{pair_views}
use Rattle.pp_ops.specs.Lists.{pair_list}
use Rattle.pp_ops.proofs.listing.add_pairs.Given as goal

abbrev pub invariant-loop-key : goal.invariant-loop-key
invariant-loop-key l = l.out ++ map pair_list (pair_views (drop l.key-index l.pairs))
    ≡ l.initial.out ++ map pair_list (pair_views l.pairs)
