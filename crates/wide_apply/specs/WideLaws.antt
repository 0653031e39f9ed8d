-- The law of runs by waves: on a machine that tells its content they come to what the run of one turn after another
-- comes to.
use Rattle.std.specs.Prelude.{◌≡◌, ◌⊎◌, ℕ, ◌<◌, IsTrue, List, [], Some, MatchOption}
use Rattle.std.specs.List.Sorted.{IsPermutation}
use Rattle.pp_values.specs.Words.{reference_text}
use Rattle.rel_graph.specs.Before.{Before}
use Rattle.rel_graph.specs.CatalogPairs.{containment, relations, IsAcyclic}
use Rattle.res_core.specs.Catalogs.{Catalog, IsCatalog}
use Rattle.agent_machine.specs.Contents.{Content}
use Rattle.agent_machine.specs.Machines.{Told}
use Rattle.agent_machine.specs.Parts.{file_of}
use Rattle.agent_machine.specs.declared.report.Report.{Report}
use Rattle.agent_machine.specs.declared.report_line.ReportLine.{ReportLine}
use Rattle.agent_transaction.specs.Runs.{task_at}
use Rattle.agent_transaction.specs.SecondRuns.{IsToldRun, is_state}
use Rattle.agent_transaction.specs.Sentences.{HasLine, Says}
use Rattle.agent_transaction.specs.Tasks.{creates_of}
use Rattle.agent_transaction.specs.declared.task.Task.{Task}
use Rattle.wide_apply.specs.WideCatalogs.{IsWideRun}

-- a run by waves that found this content, and left that one
pub record IsToldWide (c : Catalog) (report : Report) (found left : Content) : Type 0 where
  pub before : Told
  pub after : Told
  pub run : IsWideRun c report before after
  pub finds : before.content ≡ Some found
  pub leaves : after.content ≡ Some left

-- There is one, from any content, where nothing stands inside itself and nothing comes before itself.
abbrev pub SomeToldWide : Type 0
SomeToldWide = (c : Catalog) (found : Content) → IsCatalog c.resources c.edges → IsAcyclic c.resources c.edges →
    (report : Report) × (left : Content) × IsToldWide c report found left

-- before the one is run it is asked for the file that the other is
abbrev pub AsksFor : Task → Task → Type 0
AsksFor task other = MatchOption (creates_of task.work) ⊥ (λ path. reference_text other.what ≡
    reference_text (file_of path))

-- a file of `creates` that is a resource of the catalog comes before what asks for it, or after it
abbrev pub CreatesAreOrdered : Catalog → Type 0
CreatesAreOrdered c = (x y : ℕ) (task other : Task) → task_at c.resources x ≡ Some task →
    task_at c.resources y ≡ Some other →
    AsksFor task other →
    Before (containment c.resources) (relations c.edges) y x ⊎ Before (containment c.resources) (relations c.edges) x y

-- From one content both come to the same lines, though in another order, and to the same document: where no call is to
-- fail by its number, and files of `creates` are ordered.
abbrev pub WavesAreTheRun : Type 0
WavesAreTheRun = (c : Catalog) (serial wide : Report) (found left left_too : Content) → IsCatalog c.resources c.edges →
    CreatesAreOrdered c → found.failing ≡ [] → IsTrue (is_state found.document.state) →
    IsToldRun c serial found left → IsToldWide c wide found left_too →
    (wide.node ≡ serial.node) × IsPermutation serial.lines wide.lines × (left_too.document ≡ left.document)

-- the line of the resource with the lesser index stands first
abbrev pub InRisingOrder : Catalog → List ReportLine → Type 0
InRisingOrder c lines = (x y : ℕ) (line later : ReportLine) (a : HasLine c lines x line) (b : HasLine c lines y later) →
    x < y → a.place < b.place

-- The report says of each resource what the report of one turn after another says, whatever the machine and the files
-- of `creates`.
abbrev pub WideSays : Type 0
WideSays = (c : Catalog) (report : Report) (before after : Told) → IsCatalog c.resources c.edges →
    IsWideRun c report before after → Says c report.lines × InRisingOrder c report.lines
