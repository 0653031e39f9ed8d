use Rattle.std.proofs.Common.{◌≡◌, Some}
use Rattle.override_rules.proofs.nearest.nearest_outward.Given as goal
use Rattle.override_rules.specs.Defaults.{nearest, nearest_within}

abbrev pub invariant-loop-left : goal.invariant-loop-left
invariant-loop-left l =
    nearest l.scopes l.defaults l.kind l.name l.scope
    ≡ nearest_within l.left l.scopes l.defaults l.kind l.name (Some l.wanted)

abbrev pub decreases-loop-left : goal.decreases-loop-left
decreases-loop-left l = l.left
