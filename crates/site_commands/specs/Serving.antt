-- What becomes of a site that is served to connections.
use Rattle.std.specs.Prelude.{◌≡◌, ◌⊎◌, ℕ, ◌+◌, ◌≤◌, Bool, true, false, if◌then◌else◌, List, [], ◌∷◌, ◌++◌, codes, decimal}
use Rattle.std.specs.Prelude.{Option, None, Some}
use Rattle.std.specs.List.{list_any}
use Rattle.command_outputs.specs.Journals.{verdict_line}
use Rattle.command_outputs.specs.Lines.{line}
use Rattle.command_outputs.specs.Resuming.{IsTooGreat, authors_line}
use Rattle.command_outputs.specs.declared.output.Output.TheVariants as o
use Rattle.compile_core.specs.Puppet.{puppet, listed, said_site}
use Rattle.history_audit.specs.Audits.{audited}
use Rattle.history_audit.specs.declared.verdict.Verdict.{Verdict}
use Rattle.history_audit.specs.declared.verdict.Verdict.TheVariants as v
use Rattle.http_wire.specs.declared.request.H.{H}
use Rattle.http_wire.specs.declared.request.H.TheVariants as h
use Rattle.site_bundle.specs.SiteView.{SiteView}
use Rattle.site_core.specs.Events.{Event, opens}
use Rattle.site_core.specs.Resuming.{base_of}
use Rattle.site_core.specs.declared.history.TheConstants.{GREATEST_AUTHOR, MOST_ENTRIES}
use Rattle.site_docs.specs.CatalogText.{catalog_text}
use Rattle.site_docs.specs.FaultText.{fault_text}
use Rattle.site_docs.specs.JournalText.{journal_text}
use Rattle.site_io.specs.Net.{Net}
use Rattle.site_io.specs.Stream.{Stream, HasWritten}
use Rattle.site_serve.specs.Ends.{dialect}
use Rattle.site_serve.specs.declared.conn_end.ConnEnd.{ConnEnd}
use Rattle.site_serve.specs.declared.conn_end.ConnEnd.TheVariants as c
use Rattle.site_service.specs.Served.{HasServedAll}
use Rattle.site_service.specs.declared.service_stop.ServiceStop.{ServiceStop}
use Rattle.site_service.specs.declared.service_stop.ServiceStop.TheVariants as s
use Rattle.site_commands.specs.Work.{SaysOnly, WritesOr, HasLogged, Delivers}
use Rattle.site_commands.specs.World.{Says, FailsToSay}
use Rattle.site_commands.specs.declared.ending.Ending.{Ending}
use Rattle.site_commands.specs.declared.ending.Ending.TheVariants as e

-- ---- how connections ended, as lines

-- the word for an end; a connection that was closed has none
abbrev pub refusal_word : H → List ℕ
refusal_word h.BadHead = codes "H1"
refusal_word h.BadLength = codes "H2"
refusal_word h.TooLarge = codes "H3"
refusal_word h.Truncated = codes "H4"

abbrev pub end_word : ConnEnd → Option (List ℕ)
end_word c.Closed = None
end_word (c.Bad why at) = Some (refusal_word why)
end_word c.ReadFault = Some (codes "read fault")
end_word c.WriteFault = Some (codes "write fault")
end_word c.Memory = Some (codes "memory")

-- `connection 3 write fault`
unfoldable pub connection_line : ℕ → List ℕ → List ℕ
connection_line number word = codes "connection " ++ (decimal number ++ (codes " " ++ (word ++ codes "\n")))

abbrev pub end_line : ℕ → Option (List ℕ) → List ℕ
end_line number None = []
end_line number (Some word) = connection_line number word

-- of these, the first of which has this number
unfoldable pub end_lines : ℕ → List ConnEnd → List ℕ
end_lines number [] = []
end_lines number (end ∷ ends) = end_line number (end_word end) ++ end_lines (number + 1) ends

-- ---- how the run ends

abbrev pub is_memory : ConnEnd → Bool
is_memory c.Closed = false
is_memory (c.Bad why at) = false
is_memory c.ReadFault = false
is_memory c.WriteFault = false
is_memory c.Memory = true

abbrev pub stop_ending : ServiceStop → Ending
stop_ending s.Counted = e.Done
stop_ending s.Closed = e.Done
stop_ending s.NetFault = e.NetFault

-- want of memory in a connection decides over a fault of the listener
abbrev pub service_ending : List ConnEnd → ServiceStop → Ending
service_ending ends why = if list_any is_memory ends then e.Memory else stop_ending why

-- ---- what is told

-- The last line, by what came of the service. That the listener failed is told whole.
abbrev pub SaysLast : Ending → Stream → Stream → Type 0
SaysLast e.Memory before after = Says (line (codes "memory")) before after
SaysLast e.NetFault before after = HasWritten (line (codes "net fault")) before after
SaysLast ending before after = after ≡ before

-- by how the run ends and what came of the service; a run whose last line is lost ends by that
abbrev pub EndsSaying : Ending → Ending → Stream → Stream → Type 0
EndsSaying ending e.Memory before after = (ending ≡ e.Memory) × Says (line (codes "memory")) before after
EndsSaying ending e.NetFault before after = WritesOr ending e.NetFault (line (codes "net fault")) before after
EndsSaying ending whole before after = (ending ≡ whole) × (after ≡ before)

-- the journal was written whole, then the lines of the connections, and then the last line
pub record TellsWhole (whole : Ending) (journal lines : List ℕ) (out out' err err' : Stream) : Type 0 where
  pub journal_is : HasWritten journal out out'
  pub logged : Stream
  pub lines_are : HasLogged lines err logged
  pub last : SaysLast whole logged err'

-- the journal was written whole, then the lines, and then a front of the line that the listener failed
pub record LosesLast (whole : Ending) (journal lines : List ℕ) (out out' err err' : Stream) : Type 0 where
  pub whole_is : whole ≡ e.NetFault
  pub journal_is : HasWritten journal out out'
  pub logged : Stream
  pub lines_are : HasLogged lines err logged
  pub lost : FailsToSay (line (codes "net fault")) logged err'

-- or a front of the journal, and then nothing of the lines; or the journal, and a front of the lines, or of the last one
abbrev pub TellsService : Ending → Ending → List ℕ → List ℕ → Stream → Stream → Stream → Stream → Type 0
TellsService e.WriteFault whole journal lines out out' err err' =
    (FailsToSay journal out out' × (err' ≡ err))
    ⊎ ((HasWritten journal out out' × FailsToSay lines err err') ⊎ LosesLast whole journal lines out out' err err')
TellsService ending whole journal lines out out' err err' =
    (ending ≡ whole) × TellsWhole whole journal lines out out' err err'

-- what is told of a service; or memory was wanting for it, and only that was said
abbrev pub TellsServed : Ending → List (Event SiteView) → List ConnEnd → ServiceStop → Stream → Stream → Stream → Stream
    → Type 0
TellsServed e.Memory history ends why out out' err err' =
    SaysOnly (line (codes "memory")) out out' err err'
    ⊎ TellsService e.Memory (service_ending ends why) (journal_text history) (end_lines 1 ends) out out' err err'
TellsServed ending history ends why out out' err err' =
    TellsService ending (service_ending ends why) (journal_text history) (end_lines 1 ends) out out' err err'

-- ---- a service

-- connections were served under one history that begins with these entries, by authors behind this one
pub record HasServed (base : ℕ) (first : List (Event SiteView)) (count : ℕ) (before after : Net) : Type 0 where
  pub history : List (Event SiteView)
  pub ends : List ConnEnd
  pub why : ServiceStop
  pub served :
      HasServedAll puppet listed (dialect said_site catalog_text fault_text) MOST_ENTRIES base first count before after
      ends why history

-- and the journal of that history was told, and a line for each connection that was not closed
pub record ToldService (ending : Ending) (base : ℕ) (first : List (Event SiteView)) (count : ℕ)
    (out out' err err' : Stream) (before after : Net) : Type 0 where
  pub served : HasServed base first count before after
  pub told :
      TellsService ending (service_ending served.ends served.why) (journal_text served.history)
      (end_lines 1 served.ends)
      out out' err err'

-- Memory may be wanting before the listener is called, or for what is told of the service.
abbrev pub ServesFrom : Ending → ℕ → List (Event SiteView) → ℕ → Stream → Stream → Stream → Stream → Net → Net → Type 0
ServesFrom e.Memory base first count out out' err err' before after =
    (SaysOnly (line (codes "memory")) out out' err err' × ((after ≡ before) ⊎ HasServed base first count before after))
    ⊎ ToldService e.Memory base first count out out' err err' before after
ServesFrom ending base first count out out' err err' before after =
    ToldService ending base first count out out' err err' before after

-- a service that begins with a site: its connections are the authors from 1 on
abbrev pub Serves : Ending → SiteView → ℕ → Stream → Stream → Stream → Stream → Net → Net → Type 0
Serves ending site count out out' err err' before after =
    ServesFrom ending 0 (opens site ∷ []) count out out' err err' before after

-- ---- a service that goes on from a history

-- the line that tells why a history is not gone on with: the verdict on it, where it is not legal, or its greatest
-- author, where that is too great
abbrev pub IsBarredBy : Verdict → List (Event SiteView) → List ℕ → Type 0
IsBarredBy (v.Legal entries) h text = (author : ℕ) × (IsTooGreat author h × (text ≡ authors_line author))
IsBarredBy (v.Broken entry part) h text = text ≡ verdict_line (v.Broken entry part)

-- it is legal, and its greatest author is not too great
abbrev pub MayGoOn : Verdict → List (Event SiteView) → Type 0
MayGoOn (v.Legal entries) h = base_of h ≤ GREATEST_AUTHOR + 1
MayGoOn (v.Broken entry part) h = ⊥

-- the history was not gone on with, which was told, and the listener was not called; or connections were served behind
-- all its entries, by authors behind all of its own
abbrev pub ServesBy : Verdict → Ending → List (Event SiteView) → ℕ → Stream → Stream → Stream → Stream → Net → Net →
    Type 0
ServesBy verdict ending h count out out' err err' before after =
    ((text : List ℕ) × (IsBarredBy verdict h text × (Delivers ending (o.Fault text) out out' err err' × (after ≡ before))))
    ⊎ (MayGoOn verdict h × ServesFrom ending (base_of h) h count out out' err err' before after)

-- memory may be wanting before the listener is called, too
abbrev pub ServesOnBy : Verdict → Ending → List (Event SiteView) → ℕ → Stream → Stream → Stream → Stream → Net → Net →
    Type 0
ServesOnBy verdict e.Memory h count out out' err err' before after =
    (SaysOnly (line (codes "memory")) out out' err err' × (after ≡ before))
    ⊎ ServesBy verdict e.Memory h count out out' err err' before after
ServesOnBy verdict ending h count out out' err err' before after =
    ServesBy verdict ending h count out out' err err' before after

-- a legal history
abbrev pub ServesLegal : Ending → List (Event SiteView) → ℕ → Stream → Stream → Stream → Stream → Net → Net → Type 0
ServesLegal ending h count out out' err err' before after =
    ServesOnBy (v.Legal 0) ending h count out out' err err' before after

abbrev pub ServesOn : Ending → List (Event SiteView) → ℕ → Stream → Stream → Stream → Stream → Net → Net → Type 0
ServesOn ending h count out out' err err' before after =
    ServesOnBy (audited puppet h) ending h count out out' err err' before after
