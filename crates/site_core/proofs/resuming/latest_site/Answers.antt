use Rattle.std.specs.Arc.{arc_value}
use Rattle.std.specs.Prelude.{option_map}
use Rattle.site_core.specs.EntryViews.{events_of}
use Rattle.site_core.proofs.GoneOn.{looked_at}
use Rattle.site_core.proofs.resuming.latest_site.Goals as goal

pub loop-left-preserved : goal.loop-left-preserved
loop-left-preserved g c =
    looked_at c.loop-left.left.now _ (option_map (λ a. arc_value a.now) c.loop-left.latest)
    (option_map (λ a. arc_value a.now) c.later_of-latest.result) (events_of c.args.entries.now)
    c.in-len1-up.len_at_least c.entry-item.is c.later_of-latest.ensures c.loop-left.invariant
