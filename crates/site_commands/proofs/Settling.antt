-- The status of each ending, as far as words and input decide it.
use Rattle.std.proofs.Common.{◌≡◌, ◌⊎◌, ℕ, Bool, true, false, List, [], ◌∷◌, sym, ap, ◌∙◌, subst, refl, inl, inr}
use Rattle.std.specs.Prelude.{Option, Some, None, Result, Ok, Err, IfSome, nat_lt}
use Rattle.std.specs.List.{count_by}
use Rattle.agent_docs.specs.ReportText.{has_changed, has_failed}
use Rattle.agent_machine.specs.Machines.{Told}
use Rattle.agent_machine.specs.declared.machine_doc.MachineDoc.{MachineDoc}
use Rattle.agent_machine.specs.declared.report.Report.{Report}
use Rattle.command_outputs.proofs.Statuses.{status_of-run, status_of-shared, status_of-resumed, status_of-settled, status_of-demo}
use Rattle.command_outputs.specs.Nodes.{NodeRefusal, node_meaning}
use Rattle.command_outputs.specs.Statuses.{output_status}
use Rattle.command_outputs.specs.declared.output.Output.{Output}
use Rattle.command_outputs.specs.declared.output.Output.TheVariants as o
use Rattle.compile_core.specs.Puppet.{puppet}
use Rattle.history_audit.specs.Audits.{audited}
use Rattle.res_core.specs.declared.catalog.Catalog.{Catalog}
use Rattle.site_bundle.specs.declared.bundle.Bundle.{Bundle}
use Rattle.site_core.specs.Events.{opens}
use Rattle.site_io.specs.Stream.{Stream}
use Rattle.site_words.specs.Asked as a
use Rattle.site_words.specs.Asked.{Asked}
use Rattle.site_commands.proofs.GoneOn.{on_status}
use Rattle.site_commands.proofs.Served.{served_status}
use Rattle.site_commands.proofs.Told.{input-told, stop-told, IsRefusal}
use Rattle.site_commands.proofs.Worked.{ending-delivers, ending-writes, output_ending}
use Rattle.site_commands.specs.Applying.{ending_by, report_ending, TellsReport, HasRunLoaded, AppliesCatalog, AppliesMeant, Applies}
use Rattle.site_commands.specs.Endings.{Ends, HasEnded, HasStopped, HasWorked, IsComplaint, Works}
use Rattle.site_commands.proofs.Journals.{IsOfJournal, had_said, left_said, stop_said}
use Rattle.site_commands.specs.Inputs.{Input, none, bytes, site, history, asking, reading_of, IsSaidBy, HasReadSaid}
use Rattle.site_commands.specs.Settled.{input_told, IsApplyStatus, IsReportStatus, IsWorkStatus, IsStatusFor, IsSaidStatus, IsNoneSaid, IsFaultStatus, IsSettled}
use Rattle.site_commands.specs.Status.{status_of}
use Rattle.site_commands.specs.Work.{IsOutput, GivesOutput, HasDelivered}
use Rattle.site_commands.specs.World.{World}
use Rattle.site_commands.specs.declared.ending.Ending.{Ending}
use Rattle.site_commands.specs.declared.ending.Ending.TheVariants as e
use Rattle.site_commands.proofs.Wording.{complains, ended-faulty}

fault_13 : {P : Type 0} → P ⊎ IsFaultStatus 13
fault_13 = inr (inr (inl refl))

fault_16 : {P : Type 0} → P ⊎ IsFaultStatus 16
fault_16 = inr (inr (inr (inr (inr refl))))

-- ---- outputs

output-status : (output : Output) → status_of (output_ending output) ≡ output_status output
output-status (o.Done text) = refl
output-status (o.Compiled log text) = refl
output-status (o.Refused text) = refl
output-status (o.Faulty text line) = refl
output-status (o.Unsettled text line) = refl
output-status (o.Short text) = refl
output-status (o.Fault text) = refl
output-status (o.BadInput text) = refl

-- an output means a status of the work, unless it tells that memory was wanting
output_means : (asked : Asked) (output : Output) (input : Input) → IsOutput asked output input →
    IsWorkStatus (output_status output) asked input ⊎ (output_status output ≡ 16)
output_means (a.manifest node) output (bytes input) is = inl (ap output_status is)
output_means (a.check dir) output (site said) is = inl (ap output_status is)
output_means (a.compile node dir) output (site said) is = inl (ap output_status is)
output_means a.sequence output (site said) is = status_of-run output said is
output_means (a.lookup node key merge dir) output (site said) is = inl (ap output_status is)
output_means (a.demo nodes) output none is = status_of-demo nodes output is
output_means (a.batch workers) output (site said) is = status_of-shared workers output said is
output_means a.audit output (history h) is = inl (ap output_status is)
output_means a.migrate output (history h) is = inl (ap output_status is)
output_means (a.resume workers) output (asking h asked) is = status_of-resumed workers output h asked is
output_means (a.settle rounds workers) output (site said) is = inl (status_of-settled rounds workers output said is)
output_means asked output input is = absurd is

IsMeant : ℕ → Asked → Input → Type 0
IsMeant status asked input = IsWorkStatus status asked input ⊎ IsFaultStatus status

meant : (status : ℕ) (asked : Asked) (output : Output) (input : Input) → IsOutput asked output input →
    (status ≡ output_status output) ⊎ (status ≡ 13) → IsMeant status asked input
unfolding IsMeant
meant status asked output input is (inl same) =
    elim (output_means asked output input is) [
      | inl means ↦ inl (subst (λ n. IsWorkStatus n asked input) (sym same) means)
      | inr short ↦ inr (inr (inr (inr (inr (same ∙ short)))))
    ]
meant status asked output input is (inr fault) = inr (inr (inl fault))

delivered_status : (ending : Ending) (asked : Asked) (input : Input) (out out' err err' : Stream) →
    HasDelivered ending asked input out out' err err' → IsMeant (status_of ending) asked input
delivered_status ending asked input out out' err err' did =
    meant (status_of ending) asked did.output input did.is
    (elim (ending-delivers ending did.output out out' err err' did.written) [
      | inl is ↦ inl (ap status_of is ∙ output-status did.output)
      | inr is ↦ inr (ap status_of is)
    ])

given_status : (ending : Ending) (asked : Asked) (input : Input) (out out' err err' : Stream) →
    GivesOutput ending asked input out out' err err' → IsMeant (status_of ending) asked input
unfolding IsMeant
given_status e.Memory asked input out out' err err' did = fault_16
given_status ending asked input out out' err err' did = delivered_status ending asked input out out' err err' did

-- ---- catalogs that are applied

by_counts : (changed failed : Bool) → IsReportStatus (status_of (ending_by changed failed))
by_counts false false = inl refl
by_counts true false = inr (inl refl)
by_counts false true = inr (inr (inl refl))
by_counts true true = inr (inr (inr refl))

report_status : (report : Report) → IsReportStatus (status_of (report_ending report))
report_status report =
    by_counts (nat_lt 0 (count_by has_changed report.lines)) (nat_lt 0 (count_by has_failed report.lines))

-- the status of a run of a catalog
IsRunStatus : ℕ → Type 0
IsRunStatus status = IsReportStatus status ⊎ IsFaultStatus status

tells_status : (ending : Ending) (report : Report) (document : Option MachineDoc)
    (out out' err err' : Stream) → TellsReport ending report document out out' err err' →
    IsRunStatus (status_of ending)
unfolding IsRunStatus
tells_status e.WriteFault report document out out' err err' did = fault_13
tells_status e.Memory report document out out' err err' did = fault_16
tells_status ending report document out out' err err' did =
    inl (subst (λ x. IsReportStatus (status_of x)) (sym did.0) (report_status report))

loaded_status : (ending : Ending) (by : Option ℕ) (catalog : Catalog) (loaded : Told) (out out' err err' : Stream)
    (m : Told) →
    HasRunLoaded ending by catalog loaded out out' err err' m → IsRunStatus (status_of ending)
unfolding IsRunStatus
loaded_status e.Memory by catalog loaded out out' err err' m did = fault_16
loaded_status ending by catalog loaded out out' err err' m did =
    tells_status ending did.report _ out out' err err' did.told

catalog_status : (ending : Ending) (by : Option ℕ) (catalog : Catalog) (document : MachineDoc)
    (out out' err err' : Stream) (m m' : Told) →
    AppliesCatalog ending by catalog document out out' err err' m m' → IsRunStatus (status_of ending)
unfolding IsRunStatus
catalog_status e.WriteFault by catalog document out out' err err' m m' did = fault_13
catalog_status ending by catalog document out out' err err' m m' did =
    loaded_status ending by catalog did.runs.loaded out out' did.logged err' m' did.runs.ran

applied_status : (ending : Ending) (by : Option ℕ) (node : List ℕ) (meant : Result Catalog NodeRefusal)
    (document : MachineDoc)
    (out out' err err' : Stream) (m m' : Told) → AppliesMeant by node meant document out out' err err' m m' ending →
    IsApplyStatus (status_of ending) meant ⊎ IsFaultStatus (status_of ending)
unfolding IsRunStatus
applied_status ending by node (Ok catalog) document out out' err err' m m' did =
    catalog_status ending by catalog document out out' err err' m m' did
applied_status ending by node (Err refusal) document out out' err err' m m' did =
    elim (ending-writes ending e.Refused _ err err' did.0) [
      | inl is ↦ inl (ap status_of is)
      | inr is ↦ inr (inr (inl (ap status_of is)))
    ]

apply_status : (ending : Ending) (by : Option ℕ) (node : List ℕ) (said : Bundle) (out out' err err' : Stream)
    (m m' : Told) →
    Applies ending by node said out out' err err' m m' →
    IsApplyStatus (status_of ending) (node_meaning said.site node) ⊎ IsFaultStatus (status_of ending)
apply_status e.Memory by node said out out' err err' m m' did = fault_16
apply_status ending by node said out out' err err' m m' did =
    applied_status ending by node (node_meaning said.site node) said.machine out out' err err' m m' did

-- ---- a run

-- the work has a status that the input means, unless something failed or memory was wanting
work_status : (ending : Ending) (asked : Asked) (input : Input) (before after : World) →
    Works ending asked input before after →
    IsMeant (status_of ending) asked input
unfolding IsMeant
work_status ending (a.apply node dir by) (site said) before after did =
    apply_status ending by node said before.out after.out before.err after.err before.machine after.machine did.0
work_status ending (a.serve port count dir) (site said) before after did =
    served_status ending 0 (opens said.site ∷ []) count before.out after.out before.err after.err before.net after.net did.0
work_status ending (a.serve_on port count) (history h) before after did =
    on_status (audited puppet h) h count before.out after.out before.err after.err before.net after.net ending did.0
work_status ending asked input before after did =
    given_status ending asked input before.out after.out before.err after.err did.0

-- what is told decides the status
IsDecided : ℕ → Asked → World → Type 0
IsDecided status asked before =
    IfSome (input_told (reading_of asked) before) (λ told. IsStatusFor status asked told ⊎ IsFaultStatus status)

IfSome-all : {A : Type 0} (found : Option A) (P : A → Type 0) → ((x : A) → P x) → IfSome found P
IfSome-all None P all = tt
IfSome-all (Some x) P all = all x

IfSome-map : {A : Type 0} (found : Option A) (P Q : A → Type 0) → IfSome found P → ((x : A) → P x → Q x) →
    IfSome found Q
IfSome-map None P Q known step = tt
IfSome-map (Some x) P Q known step = step x known

decided_fault : (status : ℕ) (asked : Asked) (before : World) → IsFaultStatus status → IsDecided status asked before
unfolding IsDecided
decided_fault status asked before fault =
    IfSome-all (input_told (reading_of asked) before) (λ told. IsStatusFor status asked told ⊎ IsFaultStatus status)
    (λ told. inr fault)

decided_worked : (ending : Ending) (asked : Asked) (before after : World) → HasWorked ending asked before after →
    IsDecided (status_of ending) asked before
unfolding IsDecided IsMeant
decided_worked ending asked before after did =
    IfSome-map (input_told (reading_of asked) before) (λ told. told ≡ Ok did.input)
    (λ told. IsStatusFor (status_of ending) asked told ⊎ IsFaultStatus (status_of ending))
    (input-told (reading_of asked) did.input before after did.read)
    (λ told is. subst (λ t. IsStatusFor (status_of ending) asked t ⊎ IsFaultStatus (status_of ending)) (sym is)
    (work_status ending asked did.input before after did.work))

decided_stopped : (asked : Asked) (before after : World) → HasStopped e.BadInput asked before after →
    IsDecided 11 asked before
unfolding IsDecided
decided_stopped asked before after did =
    IfSome-map (input_told (reading_of asked) before) IsRefusal (λ told. IsStatusFor 11 asked told ⊎ IsFaultStatus 11)
    (stop-told did.stop (reading_of asked) before after did.is did.read)
    (λ told is. subst (λ t. IsStatusFor 11 asked t ⊎ IsFaultStatus 11) (sym is.1) (inl refl))

ends_decided : (ending : Ending) (asked : Asked) (before after : World) → (IsComplaint asked → ⊥) →
    Ends ending asked before after → IsDecided (status_of ending) asked before
ends_decided e.Done asked before after other did = decided_worked e.Done asked before after did
ends_decided e.Refused asked before after other did = decided_worked e.Refused asked before after did
ends_decided e.Changed asked before after other did = decided_worked e.Changed asked before after did
ends_decided e.Failed asked before after other did = decided_worked e.Failed asked before after did
ends_decided e.ChangedAndFailed asked before after other did = decided_worked e.ChangedAndFailed asked before after did
ends_decided e.NotSettled asked before after other did = decided_worked e.NotSettled asked before after did
ends_decided e.BadInput asked before after other (inl did) = decided_stopped asked before after did
ends_decided e.BadInput asked before after other (inr did) = decided_worked e.BadInput asked before after did
ends_decided e.ReadFault asked before after other did = decided_fault 12 asked before (inl refl)
ends_decided e.WriteFault asked before after other did = decided_fault 13 asked before (inr (inl refl))
ends_decided e.NetFault asked before after other did = decided_fault 14 asked before (inr (inr (inl refl)))
ends_decided e.TreeFault asked before after other did = decided_fault 15 asked before (inr (inr (inr (inl refl))))
ends_decided e.Memory asked before after other did = decided_fault 16 asked before (inr (inr (inr (inr refl))))
ends_decided e.BadWords asked before after other did = absurd (other (complains asked before after did))

-- ---- journals

-- what the source tells decides the status, where it is to say a journal
IsSaidDecided : ℕ → Asked → World → Type 0
IsSaidDecided status asked before =
    IfSome before.source.left (λ said. IsSaidStatus status asked said ⊎ IsFaultStatus status)

said_fault : (status : ℕ) (asked : Asked) (before : World) → IsFaultStatus status → IsSaidDecided status asked before
unfolding IsSaidDecided
said_fault status asked before fault =
    IfSome-all before.source.left (λ said. IsSaidStatus status asked said ⊎ IsFaultStatus status) (λ said. inr fault)

said_meant : (status : ℕ) (asked : Asked) (input : Input) (said : List ℕ) → IsSaidBy (reading_of asked) input said →
    IsMeant status asked input → IsSaidStatus status asked said ⊎ IsFaultStatus status
unfolding IsMeant
said_meant status asked input said is (inl means) = inl (inl (input, (is, means)))
said_meant status asked input said is (inr fault) = inr fault

said_worked : (ending : Ending) (asked : Asked) (before after : World) → IsOfJournal (reading_of asked) →
    HasWorked ending asked before after → IsSaidDecided (status_of ending) asked before
unfolding IsSaidDecided
said_worked ending asked before after of did =
    let had : HasReadSaid (reading_of asked) did.input before.source after.source =
    had_said (reading_of asked) did.input before.source after.source before.folder after.folder of did.read in
    left_said before.source.left after.source.left had.bytes
    (λ said. IsSaidStatus (status_of ending) asked said ⊎ IsFaultStatus (status_of ending)) had.read.read.left
    had.read.ended
    (said_meant (status_of ending) asked did.input had.bytes had.said
    (work_status ending asked did.input before after did.work))

said_stopped : (asked : Asked) (before after : World) → IsOfJournal (reading_of asked) →
    HasStopped e.BadInput asked before after → IsSaidDecided 11 asked before
unfolding IsSaidDecided
said_stopped asked before after of did =
    IfSome-map before.source.left (IsNoneSaid (reading_of asked)) (λ said. IsSaidStatus 11 asked said ⊎ IsFaultStatus
    11)
    (stop_said did.stop (reading_of asked) before.source after.source before.folder after.folder of did.is did.read)
    (λ said none. inl (inr (none, refl)))

ends_said : (ending : Ending) (asked : Asked) (before after : World) → IsOfJournal (reading_of asked) →
    (IsComplaint asked → ⊥) → Ends ending asked before after → IsSaidDecided (status_of ending) asked before
ends_said e.Done asked before after of other did = said_worked e.Done asked before after of did
ends_said e.Refused asked before after of other did = said_worked e.Refused asked before after of did
ends_said e.Changed asked before after of other did = said_worked e.Changed asked before after of did
ends_said e.Failed asked before after of other did = said_worked e.Failed asked before after of did
ends_said e.ChangedAndFailed asked before after of other did = said_worked e.ChangedAndFailed asked before after of did
ends_said e.NotSettled asked before after of other did = said_worked e.NotSettled asked before after of did
ends_said e.BadInput asked before after of other (inl did) = said_stopped asked before after of did
ends_said e.BadInput asked before after of other (inr did) = said_worked e.BadInput asked before after of did
ends_said e.ReadFault asked before after of other did = said_fault 12 asked before (inl refl)
ends_said e.WriteFault asked before after of other did = said_fault 13 asked before (inr (inl refl))
ends_said e.NetFault asked before after of other did = said_fault 14 asked before (inr (inr (inl refl)))
ends_said e.TreeFault asked before after of other did = said_fault 15 asked before (inr (inr (inr (inl refl))))
ends_said e.Memory asked before after of other did = said_fault 16 asked before (inr (inr (inr (inr refl))))
ends_said e.BadWords asked before after of other did = absurd (other (complains asked before after did))

-- ---- words and input

settles : (status : ℕ) (asked : Asked) (before : World) → ((IsComplaint asked → ⊥) → IsDecided status asked before) →
    (IsOfJournal (reading_of asked) → (IsComplaint asked → ⊥) → IsSaidDecided status asked before) →
    (IsComplaint asked → (status ≡ 10) ⊎ (status ≡ 16)) → IsSettled status asked before
unfolding IsDecided IsSaidDecided
settles status a.refused before decided said faulty = faulty tt
settles status (a.bad_word word) before decided said faulty = faulty tt
settles status a.audit before decided said faulty = said tt (λ complaint. complaint)
settles status a.migrate before decided said faulty = said tt (λ complaint. complaint)
settles status (a.serve_on port count) before decided said faulty = said tt (λ complaint. complaint)
settles status (a.resume workers) before decided said faulty = said tt (λ complaint. complaint)
settles status asked before decided said faulty = decided (λ complaint. complaint)

-- words and input decide the status, as far as they are told
pub ended-settled : (status : ℕ) (asked : Asked) (before after : World) → HasEnded status asked before after →
    IsSettled status asked before
ended-settled status asked before after ended =
    settles status asked before
    (λ other. subst (λ n. IsDecided n asked before) (sym ended.is)
    (ends_decided ended.ending asked before after other ended.ends))
    (λ of other. subst (λ n. IsSaidDecided n asked before) (sym ended.is)
    (ends_said ended.ending asked before after of other ended.ends))
    (ended-faulty status asked before after ended)
