use Rattle.std.proofs.Common.{◌≡◌, length, Some}
use Rattle.pp_values.specs.Rising.{with_texts}
use Rattle.override_rules.proofs.gathering.put_outward.Given as goal
use Rattle.override_rules.specs.Names.{names_within}

abbrev pub invariant-loop-left : goal.invariant-loop-left
invariant-loop-left l =
    with_texts l.names.keys (names_within l.left l.scopes l.defaults l.kind (Some l.wanted))
    ≡ with_texts l.initial.names.keys (names_within (length l.scopes) l.scopes l.defaults l.kind (Some l.scope))

abbrev pub decreases-loop-left : goal.decreases-loop-left
decreases-loop-left l = l.left
