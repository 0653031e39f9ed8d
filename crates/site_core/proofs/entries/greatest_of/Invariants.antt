-- The greatest so far and the greatest of what is left are the greatest of all.
use Rattle.std.proofs.Common.{◌≡◌, length}
use Rattle.std.specs.Prelude.{max}
use Rattle.site_core.specs.EntryViews.{events_of}
use Rattle.site_core.specs.Resuming.{past_author, base_of}
use Rattle.site_core.proofs.entries.greatest_of.Given as goal

abbrev pub invariant-loop-left : goal.invariant-loop-left
invariant-loop-left g l =
    max (past_author l.greatest) (base_of (events_of l.left)) ≡ base_of (events_of l.entries)

abbrev pub decreases-loop-left : goal.decreases-loop-left
decreases-loop-left g l = length l.left
