-- What an entry says.
use Rattle.std.specs.Prelude.{List, map}
use Rattle.std.specs.Arc.{arc_value}
use Rattle.pp_values.specs.Views.{view}
use Rattle.site_core.specs.Events.{Event, opens, publishes, adds}
use Rattle.site_core.specs.declared.entry.Entry.{Entry}
use Rattle.site_core.specs.declared.entry.Entry.TheVariants as v
use Rattle.site_core.specs.declared.plain.Plain.TheVariants as ask

module _ {S : Type 0} where
  abbrev pub event_of : Entry S → Event S
  event_of (v.Open site) = opens (arc_value site)
  event_of (v.Publish author call node facts k set) =
      publishes (record { author = author; call = call; node = node; facts = view facts; k = k; set = arc_value set })
  event_of (v.Deactivate author call node) = adds author call (ask.Deactivate node)
  event_of (v.Deploy author call site) = adds author call (ask.Deploy (arc_value site))
  event_of (v.Report author call node report) = adds author call (ask.Report node (arc_value report))

  abbrev pub events_of : List (Entry S) → List (Event S)
  events_of = map event_of
