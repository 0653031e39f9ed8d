-- What becomes of a node's catalog that is applied to a machine.
use Rattle.std.specs.Prelude.{◌≡◌, ◌⊎◌, ℕ, Bool, true, false, nat_lt, List, [], ◌++◌, Option, None, Some, option_map}
use Rattle.std.specs.Prelude.{Result, Ok, Err, MatchResult, codes}
use Rattle.std.specs.List.{count_by}
use Rattle.agent_docs.specs.MachineText.{machine_text}
use Rattle.agent_docs.specs.ReportText.{has_changed, has_failed, report_text}
use Rattle.agent_machine.specs.Machines.{Told, Loads}
use Rattle.agent_machine.specs.declared.machine_doc.MachineDoc.{MachineDoc}
use Rattle.agent_machine.specs.declared.report.Report.{Report}
use Rattle.agent_transaction.specs.Catalogs.{IsRun, IsRunStop}
use Rattle.agent_transaction.specs.declared.run_stop.RunStop.TheVariants as stop
use Rattle.command_outputs.specs.Lines.{line}
use Rattle.command_outputs.specs.Nodes.{NodeRefusal, node_meaning}
use Rattle.command_outputs.specs.Outputs.{node_refusal_line}
use Rattle.pp_values.specs.declared.memory.Memory.{Memory}
use Rattle.res_core.specs.declared.catalog.Catalog.{Catalog}
use Rattle.site_bundle.specs.declared.bundle.Bundle.{Bundle}
use Rattle.site_docs.specs.LogText.{log_text}
use Rattle.site_io.specs.Stream.{Stream, HasWritten}
use Rattle.wide_apply.specs.WideCatalogs.{IsWideRun, IsWideStop}
use Rattle.site_commands.specs.Work.{SaysOnly, WritesOr, HasLogged}
use Rattle.site_commands.specs.World.{FailsToSay}
use Rattle.site_commands.specs.declared.ending.Ending.{Ending}
use Rattle.site_commands.specs.declared.ending.Ending.TheVariants as e

-- ---- what is told of a run

abbrev pub machine_line : Option MachineDoc → List ℕ
machine_line None = []
machine_line (Some document) = line (machine_text document)

-- the report's line, and where the machine tells what is recorded, the line of that
abbrev pub applied_text : Report → Option MachineDoc → List ℕ
applied_text report document = line (report_text report) ++ machine_line document

abbrev pub ending_by : (changed failed : Bool) → Ending
ending_by false false = e.Done
ending_by true false = e.Changed
ending_by false true = e.Failed
ending_by true true = e.ChangedAndFailed

-- by what the report counts
abbrev pub report_ending : Report → Ending
report_ending report =
    ending_by (nat_lt 0 (count_by has_changed report.lines)) (nat_lt 0 (count_by has_failed report.lines))

-- what is told of a run was written, or a front of it; or memory was wanting for it, and nothing of it was written
abbrev pub TellsReport : Ending → Report → Option MachineDoc → Stream → Stream → Stream → Stream → Type 0
TellsReport e.WriteFault report document out out' err err' =
    FailsToSay (applied_text report document) out out' × (err' ≡ err)
TellsReport e.Memory report document out out' err err' = SaysOnly (line (codes "memory")) out out' err err'
TellsReport ending report document out out' err err' =
    (ending ≡ report_ending report) × (HasWritten (applied_text report document) out out' × (err' ≡ err))

-- ---- a catalog

-- the run over a catalog that has this report: one turn after another, or by waves where a number of workers is said
abbrev pub RunsBy : Option ℕ → Catalog → Report → Told → Told → Type 0
RunsBy None catalog report loaded after = IsRun catalog report loaded after
RunsBy (Some workers) catalog report loaded after = IsWideRun catalog report loaded after

-- and the run for which memory was wanting
abbrev pub StopsRun : Option ℕ → Catalog → Told → Told → Type 0
StopsRun None catalog loaded after = IsRunStop catalog stop.Memory loaded after
StopsRun (Some workers) catalog loaded after = IsWideStop catalog.resources catalog.edges stop.Memory loaded after

-- what came of the run is this
abbrev pub EndsRun : Option ℕ → Catalog → Result Report Memory → Told → Told → Type 0
EndsRun by catalog result loaded after =
    MatchResult result (λ report. RunsBy by catalog report loaded after) (λ _. StopsRun by catalog loaded after)

-- the catalog was applied to this report, of which was told
pub record HasTold (ending : Ending) (by : Option ℕ) (catalog : Catalog) (loaded : Told) (out out' err err' : Stream)
    (after : Told) : Type 0 where
  pub report : Report
  pub ran : RunsBy by catalog report loaded after
  pub told : TellsReport ending report (option_map (λ c. c.document) after.content) out out' err err'

-- The catalog was applied to a machine with its document loaded, and told of; or memory was wanting for the run or in
-- it, and only that was said.
abbrev pub HasRunLoaded : Ending → Option ℕ → Catalog → Told → Stream → Stream → Stream → Stream → Told → Type 0
HasRunLoaded e.Memory by catalog loaded out out' err err' after =
    (StopsRun by catalog loaded after × SaysOnly (line (codes "memory")) out out' err err')
    ⊎ HasTold e.Memory by catalog loaded out out' err err' after
HasRunLoaded ending by catalog loaded out out' err err' after = HasTold ending by catalog loaded out out' err err' after

-- the document was loaded, and then the catalog applied
pub record RunsOn (ending : Ending) (by : Option ℕ) (catalog : Catalog) (document : MachineDoc)
    (out out' err err' : Stream) (m m' : Told) : Type 0 where
  pub loaded : Told
  pub loads : Loads document m loaded
  pub ran : HasRunLoaded ending by catalog loaded out out' err err' m'

-- and before that the log was written whole
pub record AppliesLogged (ending : Ending) (by : Option ℕ) (catalog : Catalog) (document : MachineDoc)
    (out out' err err' : Stream)
    (m m' : Told) : Type 0 where
  pub logged : Stream
  pub log : HasLogged (log_text catalog.log) err logged
  pub runs : RunsOn ending by catalog document out out' logged err' m m'

-- The log comes first. Where it was not written whole, the machine was not called, and nothing else was written.
abbrev pub AppliesCatalog : Ending → Option ℕ → Catalog → MachineDoc → Stream → Stream → Stream → Stream → Told →
    Told → Type 0
AppliesCatalog e.WriteFault by catalog document out out' err err' m m' =
    (FailsToSay (log_text catalog.log) err err' × ((out' ≡ out) × (m' ≡ m)))
    ⊎ AppliesLogged e.WriteFault by catalog document out out' err err' m m'
AppliesCatalog ending by catalog document out out' err err' m m' =
    AppliesLogged ending by catalog document out out' err err' m m'

-- ---- a node

-- memory may be wanting before anything is done
abbrev pub OrLacks : (Ending → Type 0) → Ending → Stream → Stream → Stream → Stream → Told → Told → Type 0
OrLacks Done e.Memory out out' err err' m m' =
    (SaysOnly (line (codes "memory")) out out' err err' × (m' ≡ m)) ⊎ Done e.Memory
OrLacks Done ending out out' err err' m m' = Done ending

-- where the node has no catalog, the line that tells why was written, or a front of it, and the machine was not called
abbrev pub AppliesMeant : Option ℕ → List ℕ → Result Catalog NodeRefusal → MachineDoc → Stream → Stream → Stream →
    Stream → Told → Told
    → Ending → Type 0
AppliesMeant by node (Err refusal) document out out' err err' m m' ending =
    WritesOr ending e.Refused (node_refusal_line node refusal) err err' × ((out' ≡ out) × (m' ≡ m))
AppliesMeant by node (Ok catalog) document out out' err err' m m' ending =
    AppliesCatalog ending by catalog document out out' err err' m m'

-- the node of a bundle was applied so: its catalog, by the facts that the site lists and without exports
abbrev pub Applies : Ending → Option ℕ → List ℕ → Bundle → Stream → Stream → Stream → Stream → Told → Told → Type 0
Applies ending by node said out out' err err' m m' =
    OrLacks (AppliesMeant by node (node_meaning said.site node) said.machine out out' err err' m m') ending out out'
    err err'
    m m'
