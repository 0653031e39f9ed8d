-- The run over a catalog by waves, and what is told where there is none.
use Rattle.std.specs.Prelude.{◌≡◌, ◌⊎◌, ℕ, List, length, Result, MatchResult}
use Rattle.rel_graph.specs.Before.{Before, Direct}
use Rattle.rel_graph.specs.CatalogPairs.{containment, relations}
use Rattle.res_core.specs.Catalogs.{Catalog}
use Rattle.res_core.specs.declared.edge.Edge.{Edge}
use Rattle.res_core.specs.declared.held.Held.{Held}
use Rattle.agent_machine.specs.Machines.{Told}
use Rattle.agent_machine.specs.declared.report.Report.{Report}
use Rattle.agent_machine.specs.declared.report_line.ReportLine.{ReportLine}
use Rattle.agent_transaction.specs.Catalogs.{IsOrdered, IsCycleTold}
use Rattle.agent_transaction.specs.Runs.{signalling, tasks_at}
use Rattle.agent_transaction.specs.declared.run_stop.RunStop.{RunStop}
use Rattle.agent_transaction.specs.declared.run_stop.RunStop.TheVariants as stop
use Rattle.wide_apply.specs.WideRuns.{IsWideRunOf, IsCutWideRun}

-- a line for each resource that has a turn, by rising index
pub record AreWideLines (resources : List Held) (edges : List Edge) (lines : List ReportLine)
    (before after : Told) : Type 0 where
  pub order : List ℕ
  pub ordered : IsOrdered resources edges order
  pub run :
      IsWideRunOf (Before (containment resources) (relations edges)) (Direct (containment resources) (signalling edges))
      (length resources) (tasks_at resources order) lines before after

-- The report has the catalog's node, and these lines.
pub record IsWideRun (c : Catalog) (report : Report) (before after : Told) : Type 0 where
  pub node : report.node ≡ c.node
  pub lines : AreWideLines c.resources c.edges report.lines before after

-- a run for which memory was wanting
pub record IsCutWide (resources : List Held) (edges : List Edge) (before after : Told) : Type 0 where
  pub order : List ℕ
  pub ordered : IsOrdered resources edges order
  pub cut :
      IsCutWideRun (Before (containment resources) (relations edges)) (Direct (containment resources)
      (signalling edges))
      (tasks_at resources order) before after

-- With a cycle the machine is not called.
abbrev pub IsWideStop : List Held → List Edge → RunStop → Told → Told → Type 0
IsWideStop resources edges (stop.Cycle told) before after = IsCycleTold resources edges told × (after ≡ before)
IsWideStop resources edges stop.Memory before after = (after ≡ before) ⊎ IsCutWide resources edges before after

abbrev pub LinesGive : List Held → List Edge → Result (List ReportLine) RunStop → Told → Told → Type 0
LinesGive resources edges result before after =
    MatchResult result (λ lines. AreWideLines resources edges lines before after)
    (λ refusal. IsWideStop resources edges refusal before after)

abbrev pub RunsWide : Catalog → Result Report RunStop → Told → Told → Type 0
RunsWide c result before after =
    MatchResult result (λ report. IsWideRun c report before after)
    (λ refusal. IsWideStop c.resources c.edges refusal before after)
