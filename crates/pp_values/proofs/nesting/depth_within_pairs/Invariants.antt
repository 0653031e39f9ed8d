-- The deepest so far and what is left.
use Rattle.std.proofs.Common.{◌≡◌, ◌≤◌, drop}
use Rattle.std.specs.Prelude.{max}
use Rattle.pp_values.specs.Depth.{max_nesting, deepest_value}
use Rattle.pp_values.specs.Views.{pair_views}
use Rattle.pp_values.proofs.nesting.depth_within_pairs.Given as goal

abbrev pub invariant-loop-value : goal.invariant-loop-value
invariant-loop-value l =
    (max l.deepest (deepest_value (pair_views (drop l.value-index l.pairs))) ≡ deepest_value (pair_views l.pairs))
    × (l.deepest ≤ max_nesting)
