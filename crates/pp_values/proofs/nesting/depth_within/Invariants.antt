-- The deepest so far and what is left.
use Rattle.std.proofs.Common.{◌≡◌, ◌≤◌, drop}
use Rattle.std.specs.Prelude.{max}
use Rattle.pp_values.specs.Depth.{max_nesting, deepest}
use Rattle.pp_values.specs.Views.{views}
use Rattle.pp_values.proofs.nesting.depth_within.Given as goal

abbrev pub invariant-loop-value : goal.invariant-loop-value
invariant-loop-value l =
    (max l.deepest (deepest (views (drop l.value-index l.values))) ≡ deepest (views l.values))
    × (l.deepest ≤ max_nesting)
