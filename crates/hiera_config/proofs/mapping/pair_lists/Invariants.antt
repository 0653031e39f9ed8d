-- The lists so far, and those of the pairs that are left.
use Rattle.std.proofs.Common.{◌≡◌, ◌++◌, drop, map}
use Rattle.pp_values.specs.Views.{views, pair_views}
use Rattle.hiera_config.specs.Variables.{pair_list}
use Rattle.hiera_config.proofs.mapping.pair_lists.Given as goal

abbrev pub invariant-loop-key : goal.invariant-loop-key
invariant-loop-key l =
    views l.values.items ++ map pair_list (pair_views (drop l.key-index l.pairs)) ≡ map pair_list (pair_views l.pairs)
