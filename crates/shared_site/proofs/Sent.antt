-- For callers: a site may be shared by threads, and a pass may go to another one.
use denote.Param.Send.{IsSend, IsSync, sendable}
use denote.RattleType.{RattleType}
use denote.Struct.Declared as declared
use Rattle.std.proofs.Crossing.{crosses}
use Rattle.export_store.proofs.Sent as versions
use Rattle.export_store.proofs.Sent.{set_send, set_sync, version_send, version_sync}
use Rattle.agent_machine.specs.contracts.report_line.ReportLine as line
use Rattle.agent_machine.specs.contracts.report.Report as report
use Rattle.site_core.specs.contracts.entry.Entry as entry
use Rattle.site_core.specs.contracts.entries.Entries as entries
use Rattle.site_core.specs.contracts.state.CoreState as state
use Rattle.site_core.specs.declared.language.Language.{Ghosts}
use Rattle.site_core.proofs.counts.Counts.TheSendSync as counts_are
use Rattle.hist_lock.proofs.pass.Pass.TheSendSync as lock_pass
use Rattle.hist_lock.proofs.lock.HistLock.TheSendSync as lock
use Rattle.shared_site.specs.contracts.locked.Locked as locked
use Rattle.shared_site.specs.contracts.pass.SitePass as pass
use Rattle.shared_site.specs.contracts.site.SharedSite as site

pub ruleset parts = (versions.parts, sendable)

pub line_send : IsSend (declared.row line.the_type)
line_send = search parts depth 60

pub line_sync : IsSync (declared.row line.the_type)
line_sync = search parts depth 60

pub report_send : IsSend (declared.row report.the_type)
report_send = search (parts, line_send) depth 60

pub report_sync : IsSync (declared.row report.the_type)
report_sync = search (parts, line_sync) depth 60

pub entry_send : (S : RattleType) → IsSend S → IsSync S → IsSend (entry.the_row S)
entry_send S send sync = search (parts, set_send, set_sync, report_send, report_sync) depth 60

pub entries_send : (S : RattleType) → IsSend S → IsSync S → IsSend (entries.the_row S)
entries_send S send sync = search (parts, entry_send) depth 60

pub state_send : (L S C F : RattleType) (g : Ghosts L.Denot S.Denot C.Denot F.Denot) → IsSend S → IsSync S →
    IsSend (state.the_row L S C F g)
state_send L S C F g send sync =
    search (sendable, crosses, entries_send, version_send, counts_are.the_field_send) depth 60 fits 40000

pub locked_send : (L S C F : RattleType) (g : Ghosts L.Denot S.Denot C.Denot F.Denot) → IsSend S → IsSync S →
    IsSend (locked.the_row L S C F g)
locked_send L S C F g send sync = search (sendable, state_send) depth 60 fits 40000

pub pass_send : (L S C F : RattleType) (g : Ghosts L.Denot S.Denot C.Denot F.Denot) → IsSend S → IsSync S →
    IsSend (pass.the_row L S C F g)
pass_send L S C F g send sync = search (sendable, lock_pass.the_send, locked_send) depth 60 fits 40000

pub site_sync : (L S C F : RattleType) (g : Ghosts L.Denot S.Denot C.Denot F.Denot) → IsSync L → IsSend S → IsSync S →
    IsSync (site.the_row L S C F g)
site_sync L S C F g language send sync = search (sendable, lock.the_sync, locked_send) depth 60 fits 40000
