-- Which status a run has, as far as words and input decide it.
use Rattle.std.specs.Prelude.{◌≡◌, ◌⊎◌, ℕ, ◌+◌, ◌<◌, ◌≤◌, if◌then◌else◌, nat_le, List, length, Option, None, Some, option_map}
use Rattle.std.specs.Prelude.{Result, Ok, Err, IfSome}
use Rattle.command_outputs.specs.Nodes.{NodeRefusal, node_meaning}
use Rattle.command_outputs.specs.Statuses.{manifest_status, check_status, compile_status, sequence_status}
use Rattle.command_outputs.specs.Statuses.{lookup_status, demo_status, audit_status, migrate_status, IsBatchStatus}
use Rattle.command_outputs.specs.Statuses.{IsResumeStatus, IsSettleStatus}
use Rattle.command_outputs.specs.Resuming.{IsTooGreat}
use Rattle.compile_core.specs.Puppet.{puppet}
use Rattle.history_audit.specs.Audits.{audited}
use Rattle.history_audit.specs.declared.verdict.Verdict.{Verdict}
use Rattle.history_audit.specs.declared.verdict.Verdict.TheVariants as v
use Rattle.pp_values.specs.declared.place.TheConstants.{MAIN_MANIFEST}
use Rattle.res_core.specs.declared.catalog.Catalog.{Catalog}
use Rattle.site_bundle.specs.Bundles.{bundle_of}
use Rattle.site_bundle.specs.FolderSites.{site_walk}
use Rattle.site_bundle.specs.Refusals.{Refusal, too_large}
use Rattle.site_bundle.specs.SiteView.{SiteView}
use Rattle.site_bundle.specs.Walks.{end_over}
use Rattle.site_bundle.specs.declared.bundle.Bundle.{Bundle}
use Rattle.site_bundle.specs.declared.limits.TheConstants.{MOST_BUNDLE_BYTES, MOST_FILE_BYTES}
use Rattle.site_core.specs.Events.{Event}
use Rattle.site_core.specs.Resuming.{base_of}
use Rattle.site_core.specs.declared.history.TheConstants.{GREATEST_AUTHOR}
use Rattle.site_words.specs.Asked as a
use Rattle.site_words.specs.Asked.{Asked}
use Rattle.site_commands.specs.Inputs.{Reading, nothing, manifest, bundle, folder, journal, resuming, Input, none}
use Rattle.site_commands.specs.Inputs.{bytes, site, history, asking, reading_of, IsSaidBy, IsTooLong, IsWritten}
use Rattle.site_commands.specs.JournalParts.{journal_part, requests_said}
use Rattle.site_commands.specs.World.{World}

-- ---- the input that is told

-- a manifest that is not too long
abbrev pub manifest_of : List ℕ → Result Input Refusal
manifest_of input =
    if nat_le (length input) MOST_FILE_BYTES then Ok (bytes input) else Err (too_large MAIN_MANIFEST.now)

abbrev pub site_or : Result Bundle Refusal → Result Input Refusal
site_or (Ok said) = Ok (site said)
site_or (Err refusal) = Err refusal

-- what the input is, or why there is none, where source or tree tell what they have; journals are told apart from these
abbrev pub input_told : Reading → World → Option (Result Input Refusal)
input_told nothing before = Some (Ok none)
input_told manifest before = option_map manifest_of before.source.left
input_told bundle before = option_map (λ input. site_or (bundle_of input)) before.source.left
input_told (folder dir) before = option_map (λ files. site_or (end_over files (site_walk dir))) before.folder.told
input_told journal before = None
input_told resuming before = None

-- ---- the status by the input

abbrev pub IsReportStatus : ℕ → Type 0
IsReportStatus status = (status ≡ 0) ⊎ ((status ≡ 2) ⊎ ((status ≡ 4) ⊎ (status ≡ 6)))

-- 1 where the node has no catalog; else 0, 2, 4 or 6, by what the report counts
abbrev pub IsApplyStatus : ℕ → Result Catalog NodeRefusal → Type 0
IsApplyStatus status (Ok catalog) = IsReportStatus status
IsApplyStatus status (Err refusal) = status ≡ 1

-- of a service that goes on from a history: 1 where that is not legal or its greatest author too great
abbrev pub IsServiceStatus : Verdict → ℕ → List (Event SiteView) → Type 0
IsServiceStatus (v.Legal entries) status h =
    ((author : ℕ) × (IsTooGreat author h × (status ≡ 1))) ⊎ ((base_of h ≤ GREATEST_AUTHOR + 1) × (status ≡ 0))
IsServiceStatus (v.Broken entry part) status h = status ≡ 1

abbrev pub IsWorkStatus : ℕ → Asked → Input → Type 0
IsWorkStatus status (a.manifest node) (bytes input) = status ≡ manifest_status node input
IsWorkStatus status (a.check dir) (site said) = status ≡ check_status said.site
IsWorkStatus status (a.compile node dir) (site said) = status ≡ compile_status said.site node
IsWorkStatus status a.sequence (site said) = status ≡ sequence_status said
IsWorkStatus status (a.lookup node key merge dir) (site said) = status ≡ lookup_status said.site node key merge
IsWorkStatus status (a.apply node dir workers) (site said) = IsApplyStatus status (node_meaning said.site node)
IsWorkStatus status (a.demo nodes) none = status ≡ demo_status nodes
IsWorkStatus status (a.batch workers) (site said) = IsBatchStatus status
IsWorkStatus status (a.serve port count dir) (site said) = status ≡ 0
IsWorkStatus status (a.serve_on port count) (history h) = IsServiceStatus (audited puppet h) status h
IsWorkStatus status a.audit (history h) = status ≡ audit_status h
IsWorkStatus status a.migrate (history h) = status ≡ migrate_status h
IsWorkStatus status (a.resume workers) (asking h asked) = IsResumeStatus status h
IsWorkStatus status (a.settle rounds workers) (site said) = IsSettleStatus status
IsWorkStatus status asked input = ⊥

-- 11 where the input is none of its kind
abbrev pub IsStatusFor : ℕ → Asked → Result Input Refusal → Type 0
IsStatusFor status asked (Ok input) = IsWorkStatus status asked input
IsStatusFor status asked (Err refusal) = status ≡ 11

-- the bytes are no journal, or one of too many entries
abbrev pub IsNoJournal : List ℕ → Type 0
IsNoJournal said =
    ((h : List (Event SiteView)) → IsWritten h said → ⊥) ⊎ ((h : List (Event SiteView)) × IsTooLong h said)

-- the requests behind a journal are none
abbrev pub IsNoList : List ℕ → Type 0
IsNoList said = (why : Refusal) × (requests_said said ≡ Err why)

-- the bytes are too many, or don't say what is read
abbrev pub IsNoneSaid : Reading → List ℕ → Type 0
IsNoneSaid journal said = (MOST_BUNDLE_BYTES < length said) ⊎ IsNoJournal said
IsNoneSaid resuming said = (MOST_BUNDLE_BYTES < length said) ⊎ (IsNoJournal (journal_part said) ⊎ IsNoList said)
IsNoneSaid reading said = ⊥

-- The status by the bytes of a source that are to say a journal: that of the work on what they say, or 11 where they
-- are none.
abbrev pub IsSaidStatus : ℕ → Asked → List ℕ → Type 0
IsSaidStatus status asked said =
    ((input : Input) × (IsSaidBy (reading_of asked) input said × IsWorkStatus status asked input))
    ⊎ (IsNoneSaid (reading_of asked) said × (status ≡ 11))

-- reading or writing failed, or memory was wanting
abbrev pub IsFaultStatus : ℕ → Type 0
IsFaultStatus status = (status ≡ 12) ⊎ ((status ≡ 13) ⊎ ((status ≡ 14) ⊎ ((status ≡ 15) ⊎ (status ≡ 16))))

-- Words and input decide the status so, unless something failed or memory was wanting. Faulty words have 10.
abbrev pub IsSettled : ℕ → Asked → World → Type 0
IsSettled status a.refused before = (status ≡ 10) ⊎ (status ≡ 16)
IsSettled status (a.bad_word word) before = (status ≡ 10) ⊎ (status ≡ 16)
IsSettled status a.audit before =
    IfSome before.source.left (λ said. IsSaidStatus status a.audit said ⊎ IsFaultStatus status)
IsSettled status a.migrate before =
    IfSome before.source.left (λ said. IsSaidStatus status a.migrate said ⊎ IsFaultStatus status)
IsSettled status (a.serve_on port count) before =
    IfSome before.source.left (λ said. IsSaidStatus status (a.serve_on port count) said ⊎ IsFaultStatus status)
IsSettled status (a.resume workers) before =
    IfSome before.source.left (λ said. IsSaidStatus status (a.resume workers) said ⊎ IsFaultStatus status)
IsSettled status asked before =
    IfSome (input_told (reading_of asked) before) (λ input. IsStatusFor status asked input ⊎ IsFaultStatus status)
