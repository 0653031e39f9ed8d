-- From the steps of an application to what became of it.
use Rattle.std.proofs.Common.{◌≡◌, ℕ, Bool, true, false, List, sym, subst, refl, inl, inr}
use Rattle.std.specs.FinMap as fin
use Rattle.std.specs.Prelude.{Option, None, Some, Result, Ok, Err, IfOk, codes, nat_lt}
use Rattle.std.specs.List.{count_by}
use Rattle.agent_docs.specs.ReportText.{has_changed, has_failed}
use Rattle.agent_machine.specs.Machines.{Told}
use Rattle.agent_machine.specs.declared.machine_doc.MachineDoc.{MachineDoc}
use Rattle.agent_machine.specs.declared.report.Report.{Report}
use Rattle.agent_transaction.proofs.CatalogLemmas.{free_of_cycles}
use Rattle.agent_transaction.specs.Catalogs.{IsRunStop}
use Rattle.agent_transaction.specs.declared.run_stop.RunStop.{RunStop}
use Rattle.agent_transaction.specs.declared.run_stop.RunStop.TheVariants as run
use Rattle.command_outputs.specs.Lines.{line}
use Rattle.command_outputs.specs.Nodes.{NodeRefusal, CompilesNode, unknown, faulty, catalog_made, catalog_with}
use Rattle.command_outputs.specs.Nodes.{node_meaning}
use Rattle.command_outputs.specs.Outputs.{node_refusal_line}
use Rattle.command_outputs.specs.Stops.{TellsNodeStop}
use Rattle.command_outputs.specs.declared.node_stop.NodeStop.{NodeStop}
use Rattle.command_outputs.specs.declared.node_stop.NodeStop.TheVariants as n
use Rattle.command_outputs.specs.declared.output.Output.{Output}
use Rattle.command_outputs.specs.declared.output.Output.TheVariants as o
use Rattle.compile_core.proofs.MeantOrders.{no_cycle_is_meant}
use Rattle.compile_core.specs.Puppet.{puppet, listed}
use Rattle.pp_values.specs.Datum.{Datum}
use Rattle.pp_values.specs.declared.fault.Fault.{Fault}
use Rattle.pp_values.specs.declared.reference.Reference.{Reference}
use Rattle.rel_graph.specs.CatalogPairs.{IsAcyclic}
use Rattle.res_core.specs.declared.catalog.Catalog.{Catalog}
use Rattle.res_core.specs.declared.export_set.ExportSet.{ExportSet}
use Rattle.site_bundle.specs.SiteView.{SiteView}
use Rattle.site_bundle.specs.declared.bundle.Bundle.{Bundle}
use Rattle.site_io.specs.Stream.{Stream, HasWritten}
use Rattle.site_words.specs.Asked as a
use Rattle.wide_apply.specs.WideCatalogs.{IsWideStop}
use Rattle.site_commands.proofs.Worked.{IsOfWork, ends_worked, ending-writes}
use Rattle.site_commands.specs.Applying.{ending_by, report_ending, applied_text, TellsReport, HasTold, HasRunLoaded, AppliesLogged, AppliesCatalog, AppliesMeant, Applies, OrLacks}
use Rattle.site_commands.specs.Endings.{Ends}
use Rattle.site_commands.specs.Inputs.{site, site_from, HasInput}
use Rattle.site_commands.specs.Work.{Delivers}
use Rattle.site_commands.specs.World.{World, Says}
use Rattle.site_commands.specs.declared.ending.Ending.{Ending}
use Rattle.site_commands.specs.declared.ending.Ending.TheVariants as e

-- what is told of a run was written whole
told_by : (changed failed : Bool) (report : Report) (document : Option MachineDoc) (out out' err : Stream) →
    ending_by changed failed ≡ report_ending report → HasWritten (applied_text report document) out out' →
    TellsReport (ending_by changed failed) report document out out' err err
told_by false false report document out out' err is did = (is, (did, refl))
told_by true false report document out out' err is did = (is, (did, refl))
told_by false true report document out out' err is did = (is, (did, refl))
told_by true true report document out out' err is did = (is, (did, refl))

pub told_whole : (ending : Ending) (report : Report) (document : Option MachineDoc) (out out' err : Stream) →
    ending ≡ report_ending report → HasWritten (applied_text report document) out out' →
    TellsReport ending report document out out' err err
told_whole ending report document out out' err is did =
    subst (λ x. TellsReport x report document out out' err err) (sym is)
    (told_by (nat_lt 0 (count_by has_changed report.lines)) (nat_lt 0 (count_by has_failed report.lines)) report
    document
    out out' err refl did)

pub told_loaded : (ending : Ending) (by : Option ℕ) (catalog : Catalog) (loaded : Told) (out out' err err' : Stream)
    (m : Told) →
    HasTold ending by catalog loaded out out' err err' m → HasRunLoaded ending by catalog loaded out out' err err' m
told_loaded e.Memory by catalog loaded out out' err err' m did = inr did
told_loaded ending by catalog loaded out out' err err' m did = did

pub logged_applies : (ending : Ending) (by : Option ℕ) (catalog : Catalog) (document : MachineDoc)
    (out out' err err' : Stream) (m m' : Told) →
    AppliesLogged ending by catalog document out out' err err' m m' → AppliesCatalog ending by catalog document out
    out' err err' m m'
logged_applies e.WriteFault by catalog document out out' err err' m m' did = inr did
logged_applies ending by catalog document out out' err err' m m' did = did

pub or_lacks : (Done : Ending → Type 0) (ending : Ending) (out out' err err' : Stream) (m m' : Told) → Done ending →
    OrLacks Done ending out out' err err' m m'
or_lacks Done e.Memory out out' err err' m m' did = inr did
or_lacks Done ending out out' err err' m m' did = did

pub compiled_as : (compiled : Result Catalog NodeStop) (meant : Result Catalog NodeRefusal) (catalog : Catalog) →
    compiled ≡ Ok catalog → CompilesNode compiled meant → meant ≡ Ok catalog
compiled_as compiled meant catalog is did = subst (λ x. CompilesNode x meant) is did

-- ---- no cycle

one_ok : {A F : Type 0} (m : Result A F) (x y : A) → m ≡ Ok x → m ≡ Ok y → x ≡ y
one_ok m x y e f = cc

made_of : (meant : Result (Catalog × ExportSet) Fault) (catalog : Catalog) → catalog_made meant ≡ Ok catalog →
    (made : Catalog × ExportSet) × (meant ≡ Ok made) × (made.0 ≡ catalog)
made_of (Ok made) catalog is = (made, refl, one_ok (catalog_made (Ok made)) made.0 catalog refl is)
made_of (Err fault) catalog is = absurd cc

-- the catalog of a node has none
node_free : (view : SiteView) (node : List ℕ) (facts : Option Datum) (catalog : Catalog) →
    catalog_with view node facts ≡ Ok catalog → IsAcyclic catalog.resources catalog.edges
node_free view node None catalog is = absurd cc
node_free view node (Some facts) catalog is =
    let made = made_of (puppet view node facts fin.empty) catalog is in
    subst (λ (c : Catalog). IsAcyclic c.resources c.edges) made.2
    (no_cycle_is_meant view node facts fin.empty made.0 made.1)

pub compiled_free : (compiled : Result Catalog NodeStop) (view : SiteView) (node : List ℕ) →
    CompilesNode compiled (node_meaning view node) → IfOk compiled (λ c. IsAcyclic c.resources c.edges)
unfolding Rattle.command_outputs.specs.Nodes.node_meaning
compiled_free (Ok catalog) view node is = node_free view node (listed view node) catalog is
compiled_free (Err stop) view node is = tt

-- so a run of it doesn't end by one
pub turns_free : (catalog : Catalog) (why : RunStop) (told : List Reference) (before after : Told) →
    IsAcyclic catalog.resources catalog.edges → why ≡ run.Cycle told → IsRunStop catalog why before after → ⊥
turns_free catalog why told before after free is did =
    free_of_cycles catalog.resources catalog.edges told free
    (subst (λ w. IsRunStop catalog w before after) is did).0

pub waves_free : (catalog : Catalog) (why : RunStop) (told : List Reference) (before after : Told) →
    IsAcyclic catalog.resources catalog.edges → why ≡ run.Cycle told →
    IsWideStop catalog.resources catalog.edges why before after → ⊥
waves_free catalog why told before after free is did =
    free_of_cycles catalog.resources catalog.edges told free
    (subst (λ w. IsWideStop catalog.resources catalog.edges w before after) is did).0

-- ---- what becomes of the catalog

pub uncompiled_as : (compiled : Result Catalog NodeStop) (meant : Result Catalog NodeRefusal) (stop : NodeStop) →
    compiled ≡ Err stop → CompilesNode compiled meant → CompilesNode (Err stop) meant
uncompiled_as compiled meant stop is did = subst (λ x. CompilesNode x meant) is did

-- the node's catalog is this one
pub applies_as : (ending : Ending) (by : Option ℕ) (node : List ℕ) (meant : Result Catalog NodeRefusal)
    (catalog : Catalog)
    (document : MachineDoc) (out out' err err' : Stream) (m m' : Told) → meant ≡ Ok catalog →
    OrLacks (λ x. AppliesCatalog x by catalog document out out' err err' m m') ending out out' err err' m m' →
    OrLacks (AppliesMeant by node meant document out out' err err' m m') ending out out' err err' m m'
applies_as ending by node meant catalog document out out' err err' m m' is did =
    subst (λ x. OrLacks (AppliesMeant by node x document out out' err err' m m') ending out out' err err' m m')
    (sym is) did

module _ (ending : Ending) (by : Option ℕ) (node : List ℕ) (out out' err err' : Stream)
    (meant : Result Catalog NodeRefusal)
    (document : MachineDoc) (m : Told) where
  refused_as : (refusal : NodeRefusal) (output : Output) → meant ≡ Err refusal →
      output ≡ o.Fault (node_refusal_line node refusal) → Delivers ending output out out' err err' →
      OrLacks (AppliesMeant by node meant document out out' err err' m m) ending out out' err err' m m
  refused_as refusal output is same did =
      let wrote : Delivers ending (o.Fault (node_refusal_line node refusal)) out out' err err' =
      subst (λ x. Delivers ending x out out' err err') same did in
      subst (λ x. OrLacks (AppliesMeant by node x document out out' err err' m m) ending out out' err err' m m) (sym is)
      (or_lacks (AppliesMeant by node (Err refusal) document out out' err err' m m) ending out out' err err' m m
      (wrote.0, (wrote.1, refl)))

  -- why the node has no catalog was written
  pub refusal_told : (stop : NodeStop) (output : Output) → CompilesNode (Err stop) meant →
      TellsNodeStop output node stop →
      Delivers ending output out out' err err' →
      OrLacks (AppliesMeant by node meant document out out' err err' m m) ending out out' err err' m m
  refusal_told n.Unknown output is tells did = refused_as unknown output is tells did
  refusal_told (n.Fault fault) output is tells did = refused_as (faulty fault) output is tells did
  refusal_told n.Memory output is tells did = absurd tells

  -- memory was wanting
  pub lacking : ending ≡ e.Memory → Says (line (codes "memory")) err err' → out' ≡ out →
      OrLacks (AppliesMeant by node meant document out out' err err' m m) ending out out' err err' m m
  lacking is said same =
      subst (λ x. OrLacks (AppliesMeant by node meant document out out' err err' m m) x out out' err err' m m) (sym is)
      (inl ((said, same), refl))

-- ---- a command

-- an ending of a report is one of work
report_of_work : (changed failed : Bool) → IsOfWork (ending_by changed failed)
report_of_work false false = tt
report_of_work true false = tt
report_of_work false true = tt
report_of_work true true = tt

told_of_work : (ending : Ending) (report : Report) → ending ≡ report_ending report → IsOfWork ending
told_of_work ending report is =
    subst IsOfWork (sym is)
    (report_of_work (nat_lt 0 (count_by has_changed report.lines)) (nat_lt 0 (count_by has_failed report.lines)))

catalog_of_work : (ending : Ending) (by : Option ℕ) (catalog : Catalog) (document : MachineDoc)
    (out out' err err' : Stream) (m m' : Told) →
    AppliesCatalog ending by catalog document out out' err err' m m' → IsOfWork ending
catalog_of_work e.BadWords by catalog document out out' err err' m m' did =
    told_of_work e.BadWords did.runs.ran.report did.runs.ran.told.0
catalog_of_work e.ReadFault by catalog document out out' err err' m m' did =
    told_of_work e.ReadFault did.runs.ran.report did.runs.ran.told.0
catalog_of_work e.TreeFault by catalog document out out' err err' m m' did =
    told_of_work e.TreeFault did.runs.ran.report did.runs.ran.told.0
catalog_of_work ending by catalog document out out' err err' m m' did = tt

meant_of_work : (ending : Ending) (by : Option ℕ) (node : List ℕ) (meant : Result Catalog NodeRefusal)
    (document : MachineDoc)
    (out out' err err' : Stream) (m m' : Told) → AppliesMeant by node meant document out out' err err' m m' ending →
    IsOfWork ending
meant_of_work ending by node (Ok catalog) document out out' err err' m m' did =
    catalog_of_work ending by catalog document out out' err err' m m' did
meant_of_work ending by node (Err refusal) document out out' err err' m m' did =
    elim (ending-writes ending e.Refused _ err err' did.0) [
      | inl is ↦ subst IsOfWork (sym is) tt
      | inr is ↦ subst IsOfWork (sym is) tt
    ]

applied_of_work : (ending : Ending) (by : Option ℕ) (node : List ℕ) (said : Bundle) (out out' err err' : Stream)
    (m m' : Told) →
    Applies ending by node said out out' err err' m m' → IsOfWork ending
applied_of_work e.Memory by node said out out' err err' m m' did = tt
applied_of_work ending by node said out out' err err' m m' did =
    meant_of_work ending by node (node_meaning said.site node) said.machine out out' err err' m m' did

-- where the bundle was had, and the node of it applied so, the run ended so
pub ends_applied : (ending : Ending) (node : List ℕ) (dir : Option (List ℕ)) (by : Option ℕ) (said : Bundle)
    (before after : World) →
    HasInput (site_from dir) (site said) before.source after.source before.folder after.folder →
    after.net ≡ before.net →
    Applies ending by node said before.out after.out before.err after.err before.machine after.machine →
    Ends ending (a.apply node dir by) before after
ends_applied ending node dir by said before after read net did =
    ends_worked ending (a.apply node dir by) before after
    (applied_of_work ending by node said before.out after.out before.err after.err before.machine after.machine did)
    (record { input = site said; read = read; work = (did, net) })
