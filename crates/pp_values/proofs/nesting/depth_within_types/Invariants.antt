-- The deepest so far and what is left.
use Rattle.std.proofs.Common.{◌≡◌, drop}
use Rattle.std.specs.Prelude.{max}
use Rattle.pp_values.specs.Depth.{deepest_type}
use Rattle.pp_values.specs.PTypes.{sorts}
use Rattle.pp_values.proofs.nesting.depth_within_types.Given as goal

abbrev pub invariant-loop-ptype : goal.invariant-loop-ptype
invariant-loop-ptype l = max l.deepest (deepest_type (sorts (drop l.ptype-index l.types))) ≡ deepest_type (sorts l.types)
