use Rattle.std.proofs.Common.{sym, ap, ◌∙◌}
use Rattle.site_core.specs.EntryViews.{event_of}
use Rattle.history_audit.specs.Audits.{broken_part}
use Rattle.history_audit.proofs.auditing.broken_part.Goals as goal

pub returns-in-Deactivate : goal.returns-in-Deactivate
returns-in-Deactivate g c h keeps =
    c.wrong_call-in-Deactivate.ensures h keeps
    ∙ sym (ap (λ e. broken_part g.L.Language.meaning h (event_of e)) c.in-Deactivate.is)

pub returns-in-Deploy : goal.returns-in-Deploy
returns-in-Deploy g c h keeps =
    c.wrong_call-in-Deploy.ensures h keeps
    ∙ sym (ap (λ e. broken_part g.L.Language.meaning h (event_of e)) c.in-Deploy.is)

pub returns-in-Report : goal.returns-in-Report
returns-in-Report g c h keeps =
    c.wrong_call-in-Report.ensures h keeps
    ∙ sym (ap (λ e. broken_part g.L.Language.meaning h (event_of e)) c.in-Report.is)
