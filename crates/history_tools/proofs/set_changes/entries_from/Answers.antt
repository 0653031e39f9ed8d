use Rattle.site_core.specs.EntryViews.{event_of}
use Rattle.history_tools.proofs.Changed.{map_behind}
use Rattle.history_tools.proofs.set_changes.entries_from.Goals as goal

pub returns : goal.returns
returns g c =
    map_behind event_of c.args.start c.as_slice.result.now c.args.entries.now c.as_slice.ensures.entries
