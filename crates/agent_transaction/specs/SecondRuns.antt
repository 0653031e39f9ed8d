-- Laws of runs on a machine that tells its content: there is one, and a second one changes nothing.
use Rattle.std.specs.Prelude.{◌≡◌, Bool, true, false, ◌||◌, not, IsTrue, [], None, Some, codes}
use Rattle.std.specs.FinMap.Entries.{is_sorted}
use Rattle.std.specs.List.{All, list_all}
use Rattle.std.specs.Str.{bytes_eq}
use Rattle.pp_values.specs.Rising.{text_cmp}
use Rattle.pp_values.specs.declared.reference.Reference.{Reference}
use Rattle.rel_graph.specs.CatalogPairs.{IsAcyclic}
use Rattle.res_core.specs.Catalogs.{Catalog, IsCatalog}
use Rattle.res_core.specs.declared.held.Held.{Held}
use Rattle.agent_machine.specs.Contents.{Content}
use Rattle.agent_machine.specs.Machines.{Told}
use Rattle.agent_machine.specs.States.{State}
use Rattle.agent_machine.specs.declared.report.Report.{Report}
use Rattle.agent_machine.specs.declared.report_line.ReportLine.{ReportLine}
use Rattle.agent_machine.specs.declared.status.Status.{Status}
use Rattle.agent_machine.specs.declared.status.Status.TheVariants as status
use Rattle.agent_transaction.specs.Catalogs.{IsRun}
use Rattle.agent_transaction.specs.Runs.{has_failed}

-- a run that found this content, and left that one
pub record IsToldRun (c : Catalog) (report : Report) (found left : Content) : Type 0 where
  pub before : Told
  pub after : Told
  pub run : IsRun c report before after
  pub finds : before.content ≡ Some found
  pub leaves : after.content ≡ Some left

-- From one content there is one report, and one content after it.
abbrev pub OneToldRun : Type 0
OneToldRun = (c : Catalog) (one two : Report) (found left left_too : Content) →
    IsToldRun c one found left → IsToldRun c two found left_too → (one ≡ two) × (left ≡ left_too)

-- And there is one, from any content, where nothing stands inside itself and nothing comes before itself.
abbrev pub SomeToldRun : Type 0
SomeToldRun = (c : Catalog) (found : Content) → IsCatalog c.resources c.edges → IsAcyclic c.resources c.edges →
    (report : Report) × (left : Content) × IsToldRun c report found left

-- an `exec` or a `notify`: it is run, in each run again
abbrev pub is_run : Held → Bool
is_run h = bytes_eq h.item.kind (codes "exec") || bytes_eq h.item.kind (codes "notify")

-- the resource did not fail, was not skipped, and no change of it was held back by `noop`
abbrev pub is_settled : Status → Bool
is_settled status.Unchanged = true
is_settled status.Changed = true
is_settled other = false

-- the line of a resource for which nothing was done: not refreshed either
abbrev pub unchanged_line : Reference → ReportLine
unchanged_line what = record { item = what; status = status.Unchanged; changes = []; refreshed = false; fault = None }

-- the records rise by their texts, each text once, as those of any machine in memory do
abbrev pub is_state : State → Bool
is_state state = is_sorted text_cmp state

-- A run that settled all has left nothing to be done: a run of the same catalog that finds the state that it left, and
-- in which no call fails, has unchanged lines alone, and leaves the document as it was. (Where a call fails, the line
-- of its resource is failed. An `exec` and a `notify` are run each time.)
abbrev pub SecondRunChangesNothing : Type 0
SecondRunChangesNothing = (c : Catalog) (first second : Report) (found left again end : Content) →
    IsCatalog c.resources c.edges → IsTrue (list_all (λ h. not (is_run h)) c.resources) →
    IsTrue (is_state found.document.state) →
    IsToldRun c first found left → IsTrue (list_all (λ l. is_settled l.status) first.lines) →
    again.document.state ≡ left.document.state →
    IsToldRun c second again end → IsTrue (list_all (λ l. not (has_failed l)) second.lines) →
    All (λ l. l ≡ unchanged_line l.item) second.lines × (end.document ≡ again.document)
