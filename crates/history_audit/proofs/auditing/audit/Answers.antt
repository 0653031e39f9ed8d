use Rattle.std.proofs.Common.{ap, ◌∙◌}
use Rattle.std.specs.Arc.{arc_value}
use Rattle.std.proofs.lemmas.Result.{IfOk-weaker}
use Rattle.site_core.specs.EntryViews.{event_of}
use Rattle.history_audit.proofs.Looking.{opening_at}
use Rattle.history_audit.proofs.auditing.audit.Goals as goal

pub returns-in-Open : goal.returns-in-Open
returns-in-Open g c =
    IfOk-weaker c.audit_behind.result _ _
    (λ verdict is. is ∙ opening_at g.L.Language.meaning c.as_slice.result.now c.first-item.result
    (arc_value c.in-Open.site) c.args.history.now.entries c.in-len1-up.len_at_least c.first-item.is
    (ap event_of c.in-Open.is) c.as_slice.ensures.entries)
    c.audit_behind.ensures
