-- From the parts of a service that goes on from a history to how the run ended, and its status.
use Rattle.std.proofs.Common.{◌≡◌, ◌⊎◌, ℕ, ◌+◌, ◌≤◌, List, sym, ap, ◌∙◌, subst, refl, inl, inr}
use Rattle.std.specs.Prelude.{Result, Ok, Err, IfOk, codes}
use Rattle.command_outputs.proofs.Resumed.{TellsStop}
use Rattle.command_outputs.specs.Journals.{verdict_line}
use Rattle.command_outputs.specs.Lines.{line}
use Rattle.command_outputs.specs.Resuming.{IsTooGreat, authors_line}
use Rattle.command_outputs.specs.declared.output.Output.{Output}
use Rattle.command_outputs.specs.declared.output.Output.TheVariants as o
use Rattle.compile_core.specs.Puppet.{puppet, listed, said_site}
use Rattle.history_audit.specs.Audits.{audited}
use Rattle.history_audit.specs.declared.verdict.Part.{Part}
use Rattle.history_audit.specs.declared.verdict.Verdict.{Verdict}
use Rattle.history_audit.specs.declared.verdict.Verdict.TheVariants as v
use Rattle.pp_values.specs.declared.memory.Memory.{Memory}
use Rattle.site_bundle.specs.SiteView.{SiteView}
use Rattle.site_core.specs.Events.{Event}
use Rattle.site_core.specs.Resuming.{base_of}
use Rattle.site_core.specs.declared.history.TheConstants.{GREATEST_AUTHOR}
use Rattle.site_core.specs.declared.resume_stop.ResumeStop.{ResumeStop}
use Rattle.site_core.specs.declared.resume_stop.ResumeStop.TheVariants as stop
use Rattle.site_io.specs.Net.{Net}
use Rattle.site_io.specs.Stream.{Stream, Rose}
use Rattle.site_words.specs.Asked as a
use Rattle.site_commands.proofs.Served.{served_of_work, served_status, served_sinks, served_net}
use Rattle.site_commands.proofs.Worked.{IsOfWork, either_of_work, ending-writes, ends_worked}
use Rattle.site_commands.specs.Endings.{Ends}
use Rattle.site_commands.specs.Inputs.{journal, history, HasInput}
use Rattle.site_commands.specs.Serving.{IsBarredBy, MayGoOn, ServesFrom, ServesBy, ServesOnBy, ServesOn}
use Rattle.site_commands.specs.Settled.{IsServiceStatus, IsFaultStatus}
use Rattle.site_commands.specs.Status.{status_of}
use Rattle.site_commands.specs.Work.{SaysOnly, Delivers, WritesMade}
use Rattle.site_commands.specs.World.{World, Says}
use Rattle.site_commands.specs.declared.ending.Ending.{Ending}
use Rattle.site_commands.specs.declared.ending.Ending.TheVariants as e

module _ (verdict : Verdict) (h : List (Event SiteView)) (count : ℕ) (out out' err err' : Stream) (n n' : Net) where
  by_either : (ending : Ending) → ServesBy verdict ending h count out out' err err' n n' →
      ServesOnBy verdict ending h count out out' err err' n n'
  by_either e.Memory did = inr did
  by_either ending did = did

  -- memory was wanting before the listener was called
  pub lacking : (ending : Ending) → ending ≡ e.Memory → Says (line (codes "memory")) err err' → out' ≡ out → n' ≡ n →
      ServesOnBy verdict ending h count out out' err err' n n'
  lacking ending is said same net =
      subst (λ x. ServesOnBy verdict x h count out out' err err' n n') (sym is) (inl ((said, same), net))

  -- what stands in the way was told, if there was memory for the line
  pub barred : (ending : Ending) (made : Result Output Memory) (text : List ℕ) → IsBarredBy verdict h text →
      IfOk made (λ output. output ≡ o.Fault text) → WritesMade ending made out out' err err' → n' ≡ n →
      ServesOnBy verdict ending h count out out' err err' n n'
  barred ending (Ok output) text bar is did net =
      by_either ending (inl (text, (bar, (subst (λ x. Delivers ending x out out' err err') is did, net))))
  barred ending (Err memory) text bar is did net = lacking ending did.0 did.1.0 did.1.1 net

  -- it was gone on with
  pub gone_on : (ending : Ending) → MayGoOn verdict h → ServesFrom ending (base_of h) h count out out' err err' n n' →
      ServesOnBy verdict ending h count out out' err err' n n'
  gone_on ending may did = by_either ending (inr (may, did))

  -- ---- how the run ended

  by_of_work : (ending : Ending) → ServesBy verdict ending h count out out' err err' n n' → IsOfWork ending
  by_of_work ending (inl did) =
      either_of_work ending e.Refused tt (ending-writes ending e.Refused did.0 err err' did.1.1.0.0)
  by_of_work ending (inr did) = served_of_work ending (base_of h) h count out out' err err' n n' did.1

  pub on_of_work : (ending : Ending) → ServesOnBy verdict ending h count out out' err err' n n' → IsOfWork ending
  on_of_work e.Memory did = tt
  on_of_work ending did = by_of_work ending did

  -- ---- its status

  barred_status : (status : ℕ) (text : List ℕ) → IsBarredBy verdict h text → status ≡ 1 → IsServiceStatus verdict status h
  barred_status = status_barred verdict
    where
      status_barred : (verdict : Verdict) (status : ℕ) (text : List ℕ) → IsBarredBy verdict h text → status ≡ 1 →
          IsServiceStatus verdict status h
      status_barred (v.Legal entries) status text bar is = inl (bar.0, (bar.1.0, is))
      status_barred (v.Broken entry part) status text bar is = is

  done_status : (status : ℕ) → MayGoOn verdict h → status ≡ 0 → IsServiceStatus verdict status h
  done_status = status_done verdict
    where
      status_done : (verdict : Verdict) (status : ℕ) → MayGoOn verdict h → status ≡ 0 → IsServiceStatus verdict status h
      status_done (v.Legal entries) status may is = inr (may, is)
      status_done (v.Broken entry part) status may is = absurd may

  by_status : (ending : Ending) → ServesBy verdict ending h count out out' err err' n n' →
      IsServiceStatus verdict (status_of ending) h ⊎ IsFaultStatus (status_of ending)
  by_status ending (inl did) =
      elim (ending-writes ending e.Refused did.0 err err' did.1.1.0.0) [
        | inl is ↦ inl (barred_status (status_of ending) did.0 did.1.0 (ap status_of is))
        | inr is ↦ inr (inr (inl (ap status_of is)))
      ]
  by_status ending (inr did) =
      elim (served_status ending (base_of h) h count out out' err err' n n' did.1) [
        | inl is ↦ inl (done_status (status_of ending) did.0 is)
        | inr fault ↦ inr fault
      ]

  pub on_status : (ending : Ending) → ServesOnBy verdict ending h count out out' err err' n n' →
      IsServiceStatus verdict (status_of ending) h ⊎ IsFaultStatus (status_of ending)
  on_status e.Memory did = inr (inr (inr (inr (inr refl))))
  on_status ending did = by_status ending did

  -- ---- its faults

  pub on_sinks : ServesOnBy verdict e.WriteFault h count out out' err err' n n' →
      Rose out.faults out'.faults ⊎ Rose err.faults err'.faults
  on_sinks (inl did) = inr did.1.1.0.0.0
  on_sinks (inr did) = served_sinks (base_of h) h count out out' err err' n n' did.1

  pub on_net : ServesOnBy verdict e.NetFault h count out out' err err' n n' → Rose n.faults n'.faults
  on_net (inl did) = cc did.1.1.0.0.0
  on_net (inr did) = served_net (base_of h) h count out out' err err' n n' did.1

-- a legal history is served as one of which the audit says so
pub legal_served : (verdict : Verdict) (entries : ℕ) (ending : Ending) (h : List (Event SiteView)) (count : ℕ)
    (out out' err err' : Stream) (n n' : Net) → verdict ≡ audited puppet h → verdict ≡ v.Legal entries →
    ServesOnBy (v.Legal 0) ending h count out out' err err' n n' → ServesOn ending h count out out' err err' n n'
legal_served verdict entries ending h count out out' err err' n n' is same did =
    subst (λ x. ServesOnBy x ending h count out out' err err' n n') (sym same ∙ is) (as_legal ending did)
  where
    as_legal : (ending : Ending) → ServesOnBy (v.Legal 0) ending h count out out' err err' n n' →
        ServesOnBy (v.Legal entries) ending h count out out' err err' n n'
    as_legal e.Memory did = did
    as_legal ending did = did

-- the verdict was told, if there was memory for its line
pub broken_told : (verdict : Verdict) (entry : ℕ) (part : Part) (ending : Ending) (made : Result Output Memory)
    (h : List (Event SiteView)) (count : ℕ) (out out' err err' : Stream) (n n' : Net) → verdict ≡ audited puppet h →
    verdict ≡ v.Broken entry part → IfOk made (λ output. output ≡ o.Fault (verdict_line verdict)) →
    WritesMade ending made out out' err err' → n' ≡ n → ServesOn ending h count out out' err err' n n'
broken_told verdict entry part ending made h count out out' err err' n n' is same told did net =
    subst (λ x. ServesOnBy x ending h count out out' err err' n n') is
    (barred verdict h count out out' err err' n n' ending made (verdict_line verdict)
    (subst (λ x. IsBarredBy x h (verdict_line x)) (sym same) refl) told did net)

-- the greatest author is too great where that is the answer
pub told_author : (h : List (Event SiteView)) (why : ResumeStop) (author : ℕ) → why ≡ stop.Authors author →
    TellsStop h why → IsTooGreat author h
told_author h why author is told = subst (TellsStop h) is told

pub ends_served_on : (ending : Ending) (port count : ℕ) (h : List (Event SiteView)) (before after : World) →
    HasInput journal (history h) before.source after.source before.folder after.folder →
    after.machine ≡ before.machine →
    ServesOn ending h count before.out after.out before.err after.err before.net after.net →
    Ends ending (a.serve_on port count) before after
ends_served_on ending port count h before after read machine did =
    ends_worked ending (a.serve_on port count) before after
    (on_of_work (audited puppet h) h count before.out after.out before.err after.err before.net after.net ending did)
    (record { input = history h; read = read; work = (did, machine) })
