-- What comes of requests over a history that is gone on with.
use Rattle.std.specs.Prelude.{◌≡◌, ◌⊎◌, ℕ, ◌+◌, ◌≤◌, ◌<◌, List, ◌++◌, codes, decimal}
use Rattle.compile_core.specs.Puppet.{puppet, listed}
use Rattle.history_audit.specs.Audits.{audited}
use Rattle.history_audit.specs.declared.verdict.Verdict.{Verdict}
use Rattle.history_audit.specs.declared.verdict.Verdict.TheVariants as v
use Rattle.pp_values.specs.declared.fault.Fault.{Fault}
use Rattle.res_core.specs.Asked as requests
use Rattle.res_core.specs.declared.catalog.Catalog.{Catalog}
use Rattle.site_bundle.specs.SiteView.{SiteView}
use Rattle.site_core.specs.Asked.{all_asks}
use Rattle.site_core.specs.Events.{Event}
use Rattle.site_core.specs.Resuming.{base_of}
use Rattle.site_core.specs.Runs.{Continues}
use Rattle.site_core.specs.declared.history.TheConstants.{GREATEST_AUTHOR, MOST_ENTRIES}
use Rattle.site_core.specs.declared.reply.ReplyOf.{ReplyOf}
use Rattle.command_outputs.specs.Journals.{verdict_line}
use Rattle.command_outputs.specs.Lines.{line}
use Rattle.command_outputs.specs.Outputs.{output_of, run_text}
use Rattle.command_outputs.specs.declared.output.Output.{Output}
use Rattle.command_outputs.specs.declared.output.Output.TheVariants as a

-- Workers shared out the requests, and answered them so: the history goes on from this one, by authors behind all of
-- its own. The output is the text of all entries and of these replies.
pub record HasContinued (workers : ℕ) (output : Output) (h : List (Event SiteView)) (asked : List requests.Asked) :
    Type 0 where
  pub replies : List (ReplyOf Catalog Fault)
  pub history : List (Event SiteView)
  pub continues : Continues puppet listed MOST_ENTRIES (base_of h) workers h (all_asks asked) replies history
  pub is : output ≡ output_of replies (run_text asked replies history)

-- the greatest author of a history is this one, and too great
abbrev pub IsTooGreat : ℕ → List (Event SiteView) → Type 0
IsTooGreat author h = (base_of h ≡ author + 1) × (GREATEST_AUTHOR < author)

abbrev pub authors_line : ℕ → List ℕ
authors_line author = line (codes "authors " ++ decimal author)

-- of a legal history: its greatest author is too great, or it is gone on with
abbrev pub HasGoneOn : ℕ → Output → List (Event SiteView) → List requests.Asked → Type 0
HasGoneOn workers output h asked =
    ((author : ℕ) × (IsTooGreat author h × (output ≡ a.Fault (authors_line author))))
    ⊎ ((base_of h ≤ GREATEST_AUTHOR + 1) × HasContinued workers output h asked)

abbrev pub HasResumedBy : Verdict → ℕ → Output → List (Event SiteView) → List requests.Asked → Type 0
HasResumedBy (v.Legal count) workers output h asked = HasGoneOn workers output h asked
HasResumedBy (v.Broken entry part) workers output h asked = output ≡ a.Fault (verdict_line (v.Broken entry part))

-- `resume`: a history that is not legal is told by the line of the verdict on it, and nothing is asked
abbrev pub HasResumed : ℕ → Output → List (Event SiteView) → List requests.Asked → Type 0
HasResumed workers output h asked = HasResumedBy (audited puppet h) workers output h asked
