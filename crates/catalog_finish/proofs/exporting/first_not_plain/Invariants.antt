use Rattle.std.proofs.Common.{◌≡◌, length, find, not}
use Rattle.pp_values.specs.Plain.{is_plain_value}
use Rattle.res_core.specs.AttributeViews.{settings}
use Rattle.catalog_finish.proofs.exporting.first_not_plain.Given as goal

abbrev pub invariant-loop-left : goal.invariant-loop-left
invariant-loop-left l =
    find (λ a. not (is_plain_value a.1)) (settings l.attributes) ≡ find (λ a. not (is_plain_value a.1)) (settings l.left)

abbrev pub decreases-loop-left : goal.decreases-loop-left
decreases-loop-left l = length l.left
