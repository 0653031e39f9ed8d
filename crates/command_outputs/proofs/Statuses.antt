-- The status of what came of requests.
use Rattle.std.proofs.Common.{◌≡◌, ◌⊎◌, ℕ, Bool, true, false, List, [], ◌∷◌, sym, ap, ◌∙◌, subst, refl, inl, inr}
use Rattle.std.specs.Prelude.{if◌then◌else◌}
use Rattle.std.specs.List.{list_any}
use Rattle.site_core.specs.declared.history.TheConstants.{MOST_ENTRIES}
use Rattle.site_core.specs.Asked.{all_asks}
use Rattle.history_audit.specs.Audits.{audited}
use Rattle.history_audit.specs.declared.verdict.Verdict.{Verdict}
use Rattle.history_audit.specs.declared.verdict.Verdict.TheVariants as v
use Rattle.res_core.specs.Asked as requests
use Rattle.site_bundle.specs.SiteView.{SiteView}
use Rattle.site_core.specs.Events.{Event, opens}
use Rattle.site_bundle.specs.declared.bundle.Bundle.{Bundle}
use Rattle.site_sequence.specs.SequenceLaws.{is_memory}
use Rattle.site_sequence.proofs.Turns.{meant}
use Rattle.compile_core.specs.Puppet.{puppet, listed}
use Rattle.command_outputs.specs.Demo.{demo_site, demo_requests, summary_text}
use Rattle.command_outputs.specs.Outputs.{HasRun, HasShared, HasDemonstrated, is_refusal, run_text}
use Rattle.command_outputs.specs.Resuming.{HasContinued, HasResumed, HasResumedBy}
use Rattle.command_outputs.specs.Settling.{HasSettled, end_output, settled_text}
use Rattle.history_tools.specs.declared.settle_end.SettleEnd.{SettleEnd}
use Rattle.history_tools.specs.declared.settle_end.SettleEnd.TheVariants as e
use Rattle.pp_values.specs.declared.fault.Fault.{Fault}
use Rattle.command_outputs.specs.Statuses.{output_status, outcome_status, sequence_status, IsBatchStatus, IsResumeStatus, IsResumeStatusBy, IsSettleStatus, summary_status, demo_status}
use Rattle.command_outputs.specs.declared.output.Output.{Output}
use Rattle.command_outputs.specs.declared.output.Output.TheVariants as a

-- what came of a bundle has the status that it means, unless memory was wanting in a reply
pub status_of-run : (output : Output) (bundle : Bundle) → HasRun output bundle →
    (output_status output ≡ sequence_status bundle) ⊎ (output_status output ≡ 16)
status_of-run output bundle run =
    elim (list_any is_memory run.replies) as (λ b. list_any is_memory run.replies ≡ b →
    (output_status output ≡ sequence_status bundle) ⊎ (output_status output ≡ 16)) [
      | true ↦ λ is. inr (ap output_status run.is
          ∙ ap (λ b. output_status (if b then a.Short (run_text bundle.requests run.replies run.history) else
          if list_any is_refusal run.replies then a.Refused (run_text bundle.requests run.replies run.history)
          else a.Done (run_text bundle.requests run.replies run.history))) is)
      | false ↦ λ is. inl (ap output_status run.is
          ∙ sym (ap (outcome_status bundle.requests) (meant puppet listed MOST_ENTRIES (opens bundle.site ∷ [])
          run.history (all_asks bundle.requests) run.replies run.in_turn is)))
    ] refl

IsToldStatus : Output → Type 0
IsToldStatus output = IsBatchStatus (output_status output) ⊎ (output_status output ≡ 16)

-- by whether a reply is want of memory, and whether one is a refusal
by_flags : (short refused : Bool) (text : List ℕ) →
    IsToldStatus (if short then a.Short text else if refused then a.Refused text else a.Done text)
unfolding IsToldStatus
by_flags true refused text = inr refl
by_flags false true text = inl (inr refl)
by_flags false false text = inl (inl refl)

told_status : (workers : ℕ) (output : Output) (bundle : Bundle) → HasShared workers output bundle → IsToldStatus output
told_status workers output bundle run =
    subst IsToldStatus (sym run.is) (by_flags (list_any is_memory run.replies) (list_any is_refusal run.replies)
    (run_text bundle.requests run.replies run.history))

-- what came of a batch too has one that it may have
pub status_of-shared : (workers : ℕ) (output : Output) (bundle : Bundle) → HasShared workers output bundle →
    IsBatchStatus (output_status output) ⊎ (output_status output ≡ 16)
unfolding IsToldStatus
status_of-shared workers output bundle run = told_status workers output bundle run

-- and what came of a history that was gone on with
gone_on : (workers : ℕ) (output : Output) (h : List (Event SiteView)) (asked : List requests.Asked) →
    HasContinued workers output h asked → IsToldStatus output
gone_on workers output h asked run =
    subst IsToldStatus (sym run.is) (by_flags (list_any is_memory run.replies) (list_any is_refusal run.replies)
    (run_text asked run.replies run.history))

resumed_by : (verdict : Verdict) (workers : ℕ) (output : Output) (h : List (Event SiteView))
    (asked : List requests.Asked) →
    HasResumedBy verdict workers output h asked →
    IsResumeStatusBy verdict (output_status output) h ⊎ (output_status output ≡ 16)
unfolding IsToldStatus
resumed_by (v.Legal count) workers output h asked (inl great) =
    inl (inl (great.0, (great.1.0, ap output_status great.1.1)))
resumed_by (v.Legal count) workers output h asked (inr did) =
    elim (gone_on workers output h asked did.1) [
      | inl is ↦ inl (inr (did.0, is))
      | inr short ↦ inr short
    ]
resumed_by (v.Broken entry part) workers output h asked is = inl (ap output_status is)

pub status_of-resumed : (workers : ℕ) (output : Output) (h : List (Event SiteView)) (asked : List requests.Asked) →
    HasResumed workers output h asked → IsResumeStatus (output_status output) h ⊎ (output_status output ≡ 16)
status_of-resumed workers output h asked run = resumed_by (audited puppet h) workers output h asked run

-- and what came of a search for a fixed point
by_end : (text : List ℕ) (end : SettleEnd Fault) → IsSettleStatus (output_status (end_output text end))
by_end text e.Settled = inl refl
by_end text (e.NotSettled node before after) = inr (inr refl)
by_end text (e.Refused node k fault) = inr (inl refl)
by_end text (e.Full length) = inr (inl refl)

pub status_of-settled : (rounds workers : ℕ) (output : Output) (bundle : Bundle) →
    HasSettled rounds workers output bundle → IsSettleStatus (output_status output)
status_of-settled rounds workers output bundle run =
    subst (λ o. IsSettleStatus (output_status o)) (sym run.is) (by_end (settled_text run.history run.run) run.end)

-- and what came of a demo
pub status_of-demo : (nodes : ℕ) (output : Output) → HasDemonstrated nodes output →
    (output_status output ≡ demo_status nodes) ⊎ (output_status output ≡ 16)
status_of-demo nodes output run =
    elim (list_any is_memory run.replies) as (λ b. list_any is_memory run.replies ≡ b →
    (output_status output ≡ demo_status nodes) ⊎ (output_status output ≡ 16)) [
      | true ↦ λ is. inr (ap output_status run.is
          ∙ ap (λ b. output_status (if b then a.Short (summary_text nodes run.replies run.history) else
          if list_any is_refusal run.replies then a.Refused (summary_text nodes run.replies run.history)
          else a.Done (summary_text nodes run.replies run.history))) is)
      | false ↦ λ is. inl (ap output_status run.is
          ∙ sym (ap (summary_status nodes) (meant puppet listed MOST_ENTRIES (opens (demo_site nodes) ∷ [])
          run.history (all_asks (demo_requests nodes)) run.replies run.in_turn is)))
    ] refl
