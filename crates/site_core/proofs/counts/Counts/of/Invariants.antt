-- The counts so far and the entries that are left make the counts of all.
use Rattle.std.proofs.Common.{length}
use Rattle.site_core.specs.EntryViews.{events_of}
use Rattle.site_core.proofs.Counting.{CountOn}
use Rattle.site_core.proofs.counts.Counts.of.Given as goal

abbrev pub invariant-loop-left : goal.invariant-loop-left
invariant-loop-left g l = CountOn l.counts.by_author (events_of l.left) (events_of l.entries)

abbrev pub decreases-loop-left : goal.decreases-loop-left
decreases-loop-left g l = length l.left
