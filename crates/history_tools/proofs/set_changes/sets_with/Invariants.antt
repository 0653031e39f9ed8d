-- What the entries that are left make of the sets so far is what all of them make of the first ones.
use Rattle.std.proofs.Common.{◌≡◌, length}
use Rattle.site_core.specs.EntryViews.{events_of}
use Rattle.site_core.specs.Sets.{sets_from}
use Rattle.history_tools.proofs.set_changes.sets_with.Given as goal

abbrev pub invariant-loop-left : goal.invariant-loop-left
invariant-loop-left g l = sets_from l.sets (events_of l.left) ≡ sets_from l.fn.before (events_of l.entries)

abbrev pub decreases-loop-left : goal.decreases-loop-left
decreases-loop-left g l = length l.left
