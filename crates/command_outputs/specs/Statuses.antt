-- The status of what an input gives, where memory is had and all of it is written.
use Rattle.std.specs.Prelude.{◌≡◌, ◌⊎◌, ℕ, ◌+◌, ◌≤◌, List, [], ◌∷◌, Option, None, Some}
use Rattle.history_audit.specs.Audits.{audited}
use Rattle.history_audit.specs.declared.verdict.Verdict.{Verdict}
use Rattle.history_audit.specs.declared.verdict.Verdict.TheVariants as v
use Rattle.hiera_merge.specs.declared.merge.Merge.{Merge}
use Rattle.pp_values.specs.declared.fault.Fault.{Fault}
use Rattle.res_core.specs.declared.catalog.Catalog.{Catalog}
use Rattle.res_core.specs.Asked as requests
use Rattle.site_core.specs.Resuming.{base_of}
use Rattle.site_core.specs.declared.history.TheConstants.{GREATEST_AUTHOR, MOST_ENTRIES}
use Rattle.site_core.specs.Asked.{all_asks}
use Rattle.site_core.specs.Events.{Event, opens}
use Rattle.site_bundle.specs.SiteView.{SiteView}
use Rattle.site_bundle.specs.declared.bundle.Bundle.{Bundle}
use Rattle.site_sequence.specs.Sequence.{Outcome, outcome_of}
use Rattle.compile_core.specs.Puppet.{puppet, listed}
use Rattle.command_outputs.specs.Demo.{demo_site, demo_requests, summary_text}
use Rattle.command_outputs.specs.Journals.{audited_output, migrated_output}
use Rattle.command_outputs.specs.Outputs.{manifest_output, checked_output, compiled_output, looked_up_output, output_of}
use Rattle.command_outputs.specs.Outputs.{run_text}
use Rattle.command_outputs.specs.Resuming.{IsTooGreat}
use Rattle.command_outputs.specs.declared.output.Output.{Output}
use Rattle.command_outputs.specs.declared.output.Output.TheVariants as a

-- the status of a run that writes this output
abbrev pub output_status : Output → ℕ
output_status (a.Done text) = 0
output_status (a.Compiled log text) = 0
output_status (a.Refused text) = 1
output_status (a.Faulty text line) = 1
output_status (a.Unsettled text line) = 17
output_status (a.Short text) = 16
output_status (a.Fault text) = 1
output_status (a.BadInput text) = 11

-- `manifest`: 0 where the manifest means a catalog, 1 where it means a fault, 11 where the bytes are no text
abbrev pub manifest_status : List ℕ → List ℕ → ℕ
manifest_status node input = output_status (manifest_output node input)

-- `check`: 0 where no manifest has a fault, 1 where one has
abbrev pub check_status : SiteView → ℕ
check_status site = output_status (checked_output site)

-- `compile`: 0 where the node has a catalog, 1 where its compile is refused or the site doesn't list it
abbrev pub compile_status : SiteView → List ℕ → ℕ
compile_status site node = output_status (compiled_output site node)

-- `lookup`: 0 where the site's data have a value, 1 where they give a fault
abbrev pub lookup_status : SiteView → List ℕ → List ℕ → Option Merge → ℕ
lookup_status site node key merge = output_status (looked_up_output site node key merge)

-- there is an outcome, since a history has a site
abbrev pub outcome_status : List requests.Asked → Option (Outcome SiteView Catalog Fault) → ℕ
outcome_status asked (Some o) = output_status (output_of o.replies (run_text asked o.replies o.history))
outcome_status asked None = 16

-- `sequence`: 0 where no request is refused, 1 where one is
abbrev pub sequence_status : Bundle → ℕ
sequence_status bundle = outcome_status bundle.requests
    (outcome_of puppet listed MOST_ENTRIES (opens bundle.site ∷ []) (all_asks bundle.requests))

-- `batch`: replies may tell of a refusal or not, by how the workers' turns fall
abbrev pub IsBatchStatus : ℕ → Type 0
IsBatchStatus status = (status ≡ 0) ⊎ (status ≡ 1)

abbrev pub summary_status : ℕ → Option (Outcome SiteView Catalog Fault) → ℕ
summary_status nodes (Some o) = output_status (output_of o.replies (summary_text nodes o.replies o.history))
summary_status nodes None = 16

-- `demo`: 0 where no request of it is refused
abbrev pub demo_status : ℕ → ℕ
demo_status nodes = summary_status nodes
    (outcome_of puppet listed MOST_ENTRIES (opens (demo_site nodes) ∷ []) (all_asks (demo_requests nodes)))

-- `audit`: 0 where the history is legal, 1 where it isn't
abbrev pub audit_status : List (Event SiteView) → ℕ
audit_status history = output_status (audited_output history)

-- `migrate`: 0
abbrev pub migrate_status : List (Event SiteView) → ℕ
migrate_status history = output_status (migrated_output history)

-- `resume`: 1 where the history is not legal or its greatest author too great; else replies may tell of a refusal or
-- not
abbrev pub IsResumeStatusBy : Verdict → ℕ → List (Event SiteView) → Type 0
IsResumeStatusBy (v.Legal count) status h =
    ((author : ℕ) × (IsTooGreat author h × (status ≡ 1)))
    ⊎ ((base_of h ≤ GREATEST_AUTHOR + 1) × IsBatchStatus status)
IsResumeStatusBy (v.Broken entry part) status h = status ≡ 1

abbrev pub IsResumeStatus : ℕ → List (Event SiteView) → Type 0
IsResumeStatus status h = IsResumeStatusBy (audited puppet h) status h

-- `settle`: 0 where the site settled, 17 where the last round still changed a set, and 1 where a compile was refused or
-- the history was full. By how the workers' turns fall each of them may come.
abbrev pub IsSettleStatus : ℕ → Type 0
IsSettleStatus status = (status ≡ 0) ⊎ ((status ≡ 1) ⊎ (status ≡ 17))
