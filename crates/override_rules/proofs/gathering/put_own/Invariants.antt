use Rattle.std.proofs.Common.{◌≡◌, length}
use Rattle.pp_values.specs.Rising.{with_texts}
use Rattle.pp_values.specs.Settings.{setting_names}
use Rattle.res_core.specs.AttributeViews.{settings}
use Rattle.override_rules.proofs.gathering.put_own.Given as goal

abbrev pub invariant-loop-left : goal.invariant-loop-left
invariant-loop-left l =
    with_texts l.names.keys (setting_names (settings l.left))
    ≡ with_texts l.initial.names.keys (setting_names l.attributes)

abbrev pub decreases-loop-left : goal.decreases-loop-left
decreases-loop-left l = length l.left
