use Rattle.site_core.specs.EntryViews.{events_of}
use Rattle.history_tools.proofs.NextCalls.{counting_fits, counting_more}
use Rattle.history_tools.proofs.same_workers.counted_on.Goals as goal

pub loop-entry-preserved : goal.loop-entry-preserved
loop-entry-preserved g c =
    counting_more c.args.base _ c.loop-entry.counts c.by_worker.new.counts c.loop-entry.entries.items
    c.push.new.self.items _ _ _ _ c.in-Some.entry c.in_ok-next.next c.loop-entry.invariant c.in-Some.ensures.steps.0
    c.in-Some.ensures.steps.1 c.in_ok-push.ensures.items
    (c.in_ok-next.ensures (events_of c.loop-entry.entries.items) c.loop-entry.invariant.counted)

pub by_worker-requires : goal.by_worker-requires
by_worker-requires g c author =
    counting_fits c.args.base _ c.loop-entry.counts c.loop-entry.entries.items _ _ _ c.in-Some.entry
    c.loop-entry.invariant c.in-Some.ensures.steps.0 author
