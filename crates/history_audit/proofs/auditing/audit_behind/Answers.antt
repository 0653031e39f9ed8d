use Rattle.std.proofs.Common.{[], ◌∷◌, sym, ◌∙◌}
use Rattle.std.specs.Arc.{arc_value}
use Rattle.site_core.specs.EntryViews.{events_of}
use Rattle.site_core.specs.Events.{opens}
use Rattle.history_audit.specs.Audits.{audited_from}
use Rattle.history_audit.proofs.Looking.{end_at, broken_at, next_at}
use Rattle.history_audit.proofs.auditing.audit_behind.Goals as goal

pub returns-in-Some : goal.returns-in-Some
returns-in-Some g c =
    broken_at g.L.Language.meaning c.loop-left.left.now c.entry-item.result c.loop-left.past c.loop-left.number
    (audited_from g.L.Language.meaning (opens (arc_value c.args.site.now) ∷ []) (events_of c.args.entries.now))
    c.in-Some.part c.in-len1-up.len_at_least c.entry-item.is c.loop-left.invariant
    (λ h keeps. sym c.in-Some.is ∙ c.in_ok-part.ensures h keeps)

pub loop-left-preserved : goal.loop-left-preserved
loop-left-preserved g c =
    next_at g.L.Language.meaning c.loop-left.left.now c.entry-item.result c.loop-left.past c.add.new.self
    c.loop-left.number
    (audited_from g.L.Language.meaning (opens (arc_value c.args.site.now) ∷ []) (events_of c.args.entries.now))
    c.in-len1-up.len_at_least c.entry-item.is c.loop-left.invariant
    (λ h keeps. sym c.in_default-2.is ∙ c.in_ok-part.ensures h keeps) c.in_ok-add.ensures

pub returns : goal.returns
returns g c =
    end_at g.L.Language.meaning c.loop-left.left.now c.loop-left.past c.loop-left.number
    (audited_from g.L.Language.meaning (opens (arc_value c.args.site.now) ∷ []) (events_of c.args.entries.now))
    c.in_default.len_below c.loop-left.invariant
