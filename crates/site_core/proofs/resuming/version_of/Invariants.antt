-- What the entries that are left make of the sets so far is what all of them make of none.
use Rattle.std.proofs.Common.{◌≡◌, length}
use Rattle.std.specs.FinMap as fin
use Rattle.site_core.specs.EntryViews.{events_of}
use Rattle.site_core.specs.Sets.{sets_from}
use Rattle.site_core.proofs.resuming.version_of.Given as goal

abbrev pub invariant-loop-left : goal.invariant-loop-left
invariant-loop-left g l = sets_from l.version (events_of l.left) ≡ sets_from fin.empty (events_of l.entries)

abbrev pub decreases-loop-left : goal.decreases-loop-left
decreases-loop-left g l = length l.left
