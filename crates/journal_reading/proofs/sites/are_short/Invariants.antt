use Rattle.std.proofs.Common.{◌≡◌, length}
use Rattle.site_bundle.specs.Given.{are_short}
use Rattle.journal_reading.proofs.sites.are_short.Given as goal

abbrev pub invariant-loop-left : goal.invariant-loop-left
invariant-loop-left l = are_short l.left ≡ are_short l.files

abbrev pub decreases-loop-left : goal.decreases-loop-left
decreases-loop-left l = length l.left
