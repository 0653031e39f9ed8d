use Rattle.std.proofs.lemmas.List.{map-append}
use Rattle.site_core.specs.EntryViews.{event_of, events_of}
use Rattle.site_core.proofs.Shapes.{are_entries-push}
use Rattle.site_core.proofs.entries.Entries.push.Goals as goal

pub invariant_of-self-2 : goal.invariant_of-self-2
invariant_of-self-2 g c =
    rw (c.in_ok-push.ensures.items, map-append event_of)
    (are_entries-push (events_of c.self.inside.items.items) (event_of c.args.entry) c.self.invariant c.requires)
