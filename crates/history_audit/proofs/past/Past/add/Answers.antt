use Rattle.std.proofs.Common.{◌≡◌, ◌-◌, length, Some}
use Rattle.std.specs.Prelude.{slice_get}
use Rattle.site_core.specs.EntryViews.{event_of}
use Rattle.history_audit.proofs.Kept.{keeps_next}
use Rattle.history_audit.proofs.past.Past.add.Goals as goal

pub returns : goal.returns
returns g c h keeps =
    let old = c.args.self.now in
    let last : slice_get old.stages.items (length old.stages.items - 1) ≡ Some c.in-Some.stage.now =
    cc (c.in-Some.ensures.value, c.deref.ensures.value) in
    keeps_next old (record { counts = c.count_entry.new.counts; stages = c.push.new.self }) c.in-Some.stage.now
    c.in_ok-stage-in-Some.stage h (event_of c.args.entry.now) keeps last c.in_ok-count_entry.ensures
    c.in_ok-push.ensures.items c.in_ok-stage-in-Some.ensures.sets c.in_ok-stage-in-Some.ensures.site
