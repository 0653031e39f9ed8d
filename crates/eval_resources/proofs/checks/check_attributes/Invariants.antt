-- What is left decides.
use Rattle.std.proofs.Common.{◌≡◌, length}
use Rattle.res_core.specs.AttributeViews.{settings}
use Rattle.eval_resources.specs.Checks.{settings_known}
use Rattle.eval_resources.proofs.checks.check_attributes.Given as goal

abbrev pub invariant-loop-attribute : goal.invariant-loop-attribute
invariant-loop-attribute l =
    settings_known l.what l.known l.at (settings l.attributes) ≡ settings_known l.what l.known l.at (settings l.rest)

abbrev pub decreases-loop-attribute : goal.decreases-loop-attribute
decreases-loop-attribute l = length l.rest
