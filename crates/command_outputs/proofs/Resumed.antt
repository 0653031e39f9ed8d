-- From a history that is gone on with to what is told of it.
use Rattle.std.proofs.Common.{◌≡◌, ◌∙◌, ap, subst, sym, ℕ, ◌+◌, ◌≤◌, ◌<◌, List, inl, inr}
use Rattle.std.specs.Prelude.{Result, Ok, Err, IfOk}
use Rattle.compile_core.specs.Puppet.{puppet, listed}
use Rattle.history_audit.specs.Audits.{audited}
use Rattle.history_audit.specs.Laws.{SaysLegalExactly}
use Rattle.history_audit.specs.declared.verdict.Verdict.{Verdict}
use Rattle.history_audit.specs.declared.verdict.Verdict.TheVariants as v
use Rattle.pp_values.specs.declared.fault.Fault.{Fault}
use Rattle.pp_values.specs.declared.memory.Memory.{Memory}
use Rattle.res_core.specs.Asked as requests
use Rattle.res_core.specs.declared.catalog.Catalog.{Catalog}
use Rattle.site_bundle.specs.SiteView.{SiteView}
use Rattle.site_core.specs.Asked.{all_asks}
use Rattle.site_core.specs.Events.{Event}
use Rattle.site_core.specs.Legal.{Legal}
use Rattle.site_core.specs.Resuming.{base_of}
use Rattle.site_core.specs.Runs.{Continues}
use Rattle.site_core.specs.declared.history.TheConstants.{GREATEST_AUTHOR, MOST_ENTRIES}
use Rattle.site_core.specs.declared.reply.ReplyOf.{ReplyOf}
use Rattle.site_core.specs.declared.resume_stop.ResumeStop.{ResumeStop}
use Rattle.site_core.specs.declared.resume_stop.ResumeStop.TheVariants as stop
use Rattle.command_outputs.specs.Outputs.{output_of, run_text}
use Rattle.command_outputs.specs.Resuming.{HasGoneOn, authors_line}
use Rattle.command_outputs.specs.declared.output.Output.{Output}
use Rattle.command_outputs.specs.declared.output.Output.TheVariants as a

-- a history that an audit calls legal is
pub legal_by : (verdict : Verdict) (n : ℕ) (h : List (Event SiteView)) → SaysLegalExactly puppet →
    verdict ≡ audited puppet h → verdict ≡ v.Legal n → Legal puppet h
legal_by verdict n h law is same = (law.only h n (sym is ∙ same)).0

-- the requests were answered
pub went_on : (workers : ℕ) (output : Output) (h : List (Event SiteView)) (asked : List requests.Asked)
    (replies : List (ReplyOf Catalog Fault)) (history : List (Event SiteView)) (text : List ℕ) →
    base_of h ≤ GREATEST_AUTHOR + 1 →
    Continues puppet listed MOST_ENTRIES (base_of h) workers h (all_asks asked) replies history →
    text ≡ run_text asked replies history → output ≡ output_of replies text → HasGoneOn workers output h asked
went_on workers output h asked replies history text few did told is =
    inr (
      few,
      record {
        replies = replies;
        history = history;
        continues = did;
        is = is ∙ ap (output_of replies) told;
      },
    )

-- why a history is not gone on with
abbrev pub TellsStop : List (Event SiteView) → ResumeStop → Type 0
TellsStop h (stop.Authors author) = (base_of h ≡ author + 1) × (GREATEST_AUTHOR < author)
TellsStop h stop.Memory = base_of h ≤ GREATEST_AUTHOR + 1

-- the greatest author was told
pub told_great : (workers : ℕ) (made : Result Output Memory) (h : List (Event SiteView))
    (asked : List requests.Asked) (why : ResumeStop) (author : ℕ) → why ≡ stop.Authors author → TellsStop h why →
    IfOk made (λ output. output ≡ a.Fault (authors_line author)) →
    IfOk made (λ output. HasGoneOn workers output h asked)
told_great workers (Ok output) h asked why author same told is =
    inl (author, (subst (TellsStop h) same told, is))
told_great workers (Err memory) h asked why author same told is = tt
