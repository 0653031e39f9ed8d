use Rattle.std.specs.Arc.{arc_value}
use Rattle.std.proofs.Common.{ap}
use Rattle.site_core.specs.Changes.{changed_sets, changed_site}
use Rattle.site_core.specs.Core.{Core}
use Rattle.site_core.specs.EntryViews.{event_of}
use Rattle.site_core.specs.declared.change.Change.{Change}
use Rattle.site_core.proofs.Counting.{counts_same, counts_raised}
use Rattle.site_core.proofs.Keeping.{kept_change}
use Rattle.site_core.proofs.state.CoreState.add.Goals as goal

pub invariant_of-self : goal.invariant_of-self
invariant_of-self g c = (
  c.self.invariant.0,
  counts_same c.self.inside.counts.by_author c.reserve.new.self.by_author
      c.self.inside.history.entries c.in_err-reserve.ensures.same c.self.invariant.1,
)

pub invariant_of-self-in-Exports : goal.invariant_of-self-in-Exports
invariant_of-self-in-Exports g c =
    let e = event_of c.args.entry in
    let before : Core g.row.L-Site.Denot = record {
      history = c.self.inside.history.entries;
      limit = c.self.inside.limit;
    } in
    rw c.in_ok-push.ensures (
      kept_change g.L.Language.meaning before c.args.self.now c.self.view_is c.self.inside.version
          (arc_value c.self.inside.site) c.args.change e c.self.invariant.0 c.requires.follows c.requires.room
          c.requires.change c.in-Exports.version (arc_value c.self.inside.site)
          (ap (λ (x : Change g.row.L-Site.Denot). changed_sets x c.self.inside.version) c.in-Exports.is)
          (ap (λ (x : Change g.row.L-Site.Denot). changed_site x (arc_value c.self.inside.site)) c.in-Exports.is),
      counts_raised c.reserve.new.self.by_author c.raise.new.self.by_author c.args.author c.self.inside.history.entries
          e c.requires.by
          (counts_same c.self.inside.counts.by_author c.reserve.new.self.by_author c.self.inside.history.entries
          c.in_ok-reserve.ensures.same c.self.invariant.1)
          c.raise.ensures,
    )

pub invariant_of-self-in-Exports-2 : goal.invariant_of-self-in-Exports-2
invariant_of-self-in-Exports-2 g c =
    let e = event_of c.args.entry in
    let before : Core g.row.L-Site.Denot = record {
      history = c.self.inside.history.entries;
      limit = c.self.inside.limit;
    } in
    rw c.in_ok-push.ensures (
      kept_change g.L.Language.meaning before c.args.self.now c.self.view_is c.self.inside.version
          (arc_value c.self.inside.site) c.args.change e c.self.invariant.0 c.requires.follows c.requires.room
          c.requires.change c.in-Exports.version (arc_value c.self.inside.site)
          (ap (λ (x : Change g.row.L-Site.Denot). changed_sets x c.self.inside.version) c.in-Exports.is)
          (ap (λ (x : Change g.row.L-Site.Denot). changed_site x (arc_value c.self.inside.site)) c.in-Exports.is),
      counts_raised c.reserve.new.self.by_author c.raise.new.self.by_author c.args.author c.self.inside.history.entries
          e c.requires.by
          (counts_same c.self.inside.counts.by_author c.reserve.new.self.by_author c.self.inside.history.entries
          c.in_ok-reserve.ensures.same c.self.invariant.1)
          c.raise.ensures,
    )

pub invariant_of-self-in-Site : goal.invariant_of-self-in-Site
invariant_of-self-in-Site g c =
    let e = event_of c.args.entry in
    let before : Core g.row.L-Site.Denot = record {
      history = c.self.inside.history.entries;
      limit = c.self.inside.limit;
    } in
    rw c.in_ok-push.ensures (
      kept_change g.L.Language.meaning before c.args.self.now c.self.view_is c.self.inside.version
          (arc_value c.self.inside.site) c.args.change e c.self.invariant.0 c.requires.follows c.requires.room
          c.requires.change c.self.inside.version (arc_value c.in-Site.site)
          (ap (λ (x : Change g.row.L-Site.Denot). changed_sets x c.self.inside.version) c.in-Site.is)
          (ap (λ (x : Change g.row.L-Site.Denot). changed_site x (arc_value c.self.inside.site)) c.in-Site.is),
      counts_raised c.reserve.new.self.by_author c.raise.new.self.by_author c.args.author c.self.inside.history.entries
          e c.requires.by
          (counts_same c.self.inside.counts.by_author c.reserve.new.self.by_author c.self.inside.history.entries
          c.in_ok-reserve.ensures.same c.self.invariant.1)
          c.raise.ensures,
    )

pub invariant_of-self-in-Nothing : goal.invariant_of-self-in-Nothing
invariant_of-self-in-Nothing g c =
    let e = event_of c.args.entry in
    let before : Core g.row.L-Site.Denot = record {
      history = c.self.inside.history.entries;
      limit = c.self.inside.limit;
    } in
    rw c.in_ok-push.ensures (
      kept_change g.L.Language.meaning before c.args.self.now c.self.view_is c.self.inside.version
          (arc_value c.self.inside.site) c.args.change e c.self.invariant.0 c.requires.follows c.requires.room
          c.requires.change c.self.inside.version (arc_value c.self.inside.site)
          (ap (λ (x : Change g.row.L-Site.Denot). changed_sets x c.self.inside.version) c.in-Nothing.is)
          (ap (λ (x : Change g.row.L-Site.Denot). changed_site x (arc_value c.self.inside.site)) c.in-Nothing.is),
      counts_raised c.reserve.new.self.by_author c.raise.new.self.by_author c.args.author c.self.inside.history.entries
          e c.requires.by
          (counts_same c.self.inside.counts.by_author c.reserve.new.self.by_author c.self.inside.history.entries
          c.in_ok-reserve.ensures.same c.self.invariant.1)
          c.raise.ensures,
    )
