use Rattle.std.proofs.Common.{◌≡◌, length}
use Rattle.site_bundle.specs.Given.{has_main}
use Rattle.journal_reading.proofs.sites.has_main.Given as goal

abbrev pub invariant-loop-left : goal.invariant-loop-left
invariant-loop-left l = has_main l.left ≡ has_main l.files

abbrev pub decreases-loop-left : goal.decreases-loop-left
decreases-loop-left l = length l.left
