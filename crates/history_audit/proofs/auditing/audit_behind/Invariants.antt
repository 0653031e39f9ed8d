-- The entries that are left have the verdict of all.
use Rattle.std.proofs.Common.{[], ◌∷◌, length}
use Rattle.std.specs.Arc.{arc_value}
use Rattle.site_core.specs.EntryViews.{events_of}
use Rattle.site_core.specs.Events.{opens}
use Rattle.history_audit.specs.Audits.{audited_from}
use Rattle.history_audit.proofs.Looking.{Looked}
use Rattle.history_audit.proofs.auditing.audit_behind.Given as goal

abbrev pub invariant-loop-left : goal.invariant-loop-left
invariant-loop-left g l =
    Looked g.L.Language.meaning l.past l.number (events_of l.left)
    (audited_from g.L.Language.meaning (opens (arc_value l.site) ∷ []) (events_of l.entries))

abbrev pub decreases-loop-left : goal.decreases-loop-left
decreases-loop-left g l = length l.left
