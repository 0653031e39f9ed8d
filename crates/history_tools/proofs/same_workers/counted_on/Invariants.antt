-- What was counted on so far, and what is left.
use Rattle.std.proofs.Common.{◌++◌}
use Rattle.std.specs.Vec.Iter.{into_iter_items, into_iter_len}
use Rattle.site_core.specs.EntryViews.{events_of}
use Rattle.history_tools.specs.SameWorkers.{by_workers}
use Rattle.history_tools.proofs.NextCalls.{IsCounting}
use Rattle.history_tools.proofs.same_workers.counted_on.Given as goal

abbrev pub invariant-loop-entry : goal.invariant-loop-entry
invariant-loop-entry g l =
    IsCounting l.base
    (events_of l.fn.entries.items ++ by_workers l.base (events_of l.fn.entries.items) (events_of l.fn.more.items))
    l.counts l.entries.items (into_iter_items l.entry-iterator) (into_iter_len l.entry-iterator)
