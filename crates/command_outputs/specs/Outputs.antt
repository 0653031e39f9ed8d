-- What an input gives, as the texts that are to be written.
use Rattle.std.specs.Prelude.{◌≡◌, ℕ, ◌+◌, if◌then◌else◌, Bool, true, false, List, [], ◌∷◌, ◌++◌, Option, Result, Ok}
use Rattle.std.specs.Prelude.{Err, codes}
use Rattle.std.specs.List.{list_any}
use Rattle.std.specs.Str.{is_utf8}
use Rattle.hiera_merge.specs.declared.merge.Merge.{Merge}
use Rattle.json_values.specs.ValueForm.{form}
use Rattle.pp_values.specs.Datum.{Datum}
use Rattle.pp_values.specs.declared.fault.Fault.{Fault}
use Rattle.pp_values.specs.declared.place.TheConstants.{MAIN_MANIFEST}
use Rattle.res_core.specs.Asked as requests
use Rattle.res_core.specs.declared.catalog.Catalog.{Catalog}
use Rattle.res_core.specs.declared.export_set.ExportSet.{ExportSet}
use Rattle.site_core.specs.declared.history.TheConstants.{MOST_ENTRIES}
use Rattle.site_core.specs.Asked.{all_asks}
use Rattle.site_core.specs.Events.{Event, opens}
use Rattle.site_core.specs.Runs.{Whole}
use Rattle.site_core.specs.declared.reply.ReplyOf.{ReplyOf}
use Rattle.site_core.specs.declared.reply.ReplyOf.TheVariants as r
use Rattle.site_bundle.specs.SiteView.{SiteView}
use Rattle.site_bundle.specs.declared.bundle.Bundle.{Bundle}
use Rattle.site_docs.specs.CatalogText.{catalog_text}
use Rattle.site_docs.specs.FaultText.{fault_text}
use Rattle.site_docs.specs.LogText.{log_text}
use Rattle.site_docs.specs.JournalText.{journal_text}
use Rattle.site_docs.specs.ReplyText.{reply_line}
use Rattle.command_outputs.specs.declared.output.Output.{Output}
use Rattle.command_outputs.specs.declared.output.Output.TheVariants as a
use Rattle.compile_core.specs.LookUp.{look_up}
use Rattle.compile_core.specs.Puppet.{puppet, listed, manifest_meaning}
use Rattle.serde_json.specs.Written.{compact_text}
use Rattle.site_sequence.specs.Sequence.{AnsweredInTurn}
use Rattle.site_sequence.specs.SequenceLaws.{is_memory}
use Rattle.command_outputs.specs.Checks.{faults_of, checked_text}
use Rattle.command_outputs.specs.Demo.{demo_site, demo_requests, summary_text}
use Rattle.command_outputs.specs.Lines.{line}
use Rattle.command_outputs.specs.Nodes.{NodeRefusal, unknown, faulty, node_meaning}

-- a catalog is told by its log and by its line
abbrev pub catalog_output : Catalog → Output
catalog_output catalog = a.Compiled (log_text catalog.log) (line (catalog_text catalog))

-- a compile that is refused has no log
abbrev pub output_meant : Result (Catalog × ExportSet) Fault → Output
output_meant (Ok made) = catalog_output made.0
output_meant (Err fault) = a.Fault (line (fault_text fault))

-- the bytes are no text
abbrev pub no_text_output : Output
no_text_output = a.BadInput (line (codes "B2 " ++ MAIN_MANIFEST.now))

-- `manifest`: what the meaning of a manifest is told by, where it is a text
abbrev pub manifest_output : List ℕ → List ℕ → Output
manifest_output node input = if is_utf8 input then output_meant (manifest_meaning node input) else no_text_output

-- `check`: the lines of the faults and the numbers of manifests and of faults, which tell of a refusal where there is a
-- fault
abbrev pub checked_by : List Fault → List ℕ → Output
checked_by [] text = a.Done text
checked_by (fault ∷ faults) text = a.Refused text

abbrev pub checked_output : SiteView → Output
checked_output site = checked_by (faults_of site) (checked_text site)

-- the line that tells why a node has no catalog
abbrev pub node_refusal_line : List ℕ → NodeRefusal → List ℕ
node_refusal_line node unknown = line (codes "unknown node " ++ node)
node_refusal_line node (faulty fault) = line (fault_text fault)

abbrev pub node_output : List ℕ → Result Catalog NodeRefusal → Output
node_output node (Ok catalog) = catalog_output catalog
node_output node (Err refusal) = a.Fault (node_refusal_line node refusal)

-- `compile`: the catalog of a node that the site lists, by its listed facts and where no node exports anything, or why
-- there is none
abbrev pub compiled_output : SiteView → List ℕ → Output
compiled_output site node = node_output node (node_meaning site node)

-- whether a reply tells that what was asked for can't be had
abbrev pub is_refusal : {C F : Type 0} → ReplyOf C F → Bool
is_refusal (r.Served entry k catalog) = false
is_refusal (r.Refused k fault) = true
is_refusal (r.HistoryFull length) = true
is_refusal (r.SeenAhead length) = true
is_refusal (r.UnknownNode k) = true
is_refusal (r.Deactivated entry) = false
is_refusal (r.Deployed entry) = false
is_refusal (r.Reported entry) = false
is_refusal r.Memory = false

-- the output, and what its replies tell of: want of memory counts before a refusal
abbrev pub output_of : {C F : Type 0} → List (ReplyOf C F) → List ℕ → Output
output_of replies text = if list_any is_memory replies then a.Short text else if list_any is_refusal replies then
    a.Refused text else a.Done text

-- the lines of the replies to these requests, the first of which has the number n
unfoldable pub reply_lines : ℕ → List requests.Asked → List (ReplyOf Catalog Fault) → List ℕ
reply_lines n [] replies = []
reply_lines n (asked ∷ more) [] = []
reply_lines n (asked ∷ more) (reply ∷ replies) = reply_line catalog_text fault_text n asked reply ++
    reply_lines (n + 1) more replies

-- journal, and then the lines of the replies
abbrev pub run_text : List requests.Asked → List (ReplyOf Catalog Fault) → List (Event SiteView) → List ℕ
run_text asked replies history = journal_text history ++ reply_lines 0 asked replies

-- `sequence`: the requests of a bundle were answered so, one after another, over a history that begins with its site:
-- they are the whole work of one author. The output is the text of this history and of these replies.
pub record HasRun (output : Output) (bundle : Bundle) : Type 0 where
  pub replies : List (ReplyOf Catalog Fault)
  pub history : List (Event SiteView)
  pub in_turn :
      AnsweredInTurn puppet listed MOST_ENTRIES (opens bundle.site ∷ []) (all_asks bundle.requests) replies history
  pub whole : Whole puppet listed MOST_ENTRIES 1 bundle.site (all_asks bundle.requests) replies history
  pub is : output ≡ output_of replies (run_text bundle.requests replies history)

-- `batch`: workers shared out the requests of a bundle, and answered them so over one history that begins with its
-- site. The output is the text of this history and of these replies.
pub record HasShared (workers : ℕ) (output : Output) (bundle : Bundle) : Type 0 where
  pub replies : List (ReplyOf Catalog Fault)
  pub history : List (Event SiteView)
  pub whole : Whole puppet listed MOST_ENTRIES workers bundle.site (all_asks bundle.requests) replies history
  pub is : output ≡ output_of replies (run_text bundle.requests replies history)

abbrev pub value_output : Result Datum Fault → Output
value_output (Ok value) = a.Done (line (compact_text (form value)))
value_output (Err fault) = a.Fault (line (fault_text fault))

-- `lookup`: the form of the value that the site's data have, on one line, or the line of the fault. Nothing is asked of
-- its manifests.
abbrev pub looked_up_output : SiteView → List ℕ → List ℕ → Option Merge → Output
looked_up_output site node key merge = value_output (look_up site node key merge)

-- `demo`: the requests of the demo with so many nodes were answered so, one after another, over a history that begins
-- with its site. The output is what they come to in numbers.
pub record HasDemonstrated (nodes : ℕ) (output : Output) : Type 0 where
  pub replies : List (ReplyOf Catalog Fault)
  pub history : List (Event SiteView)
  pub in_turn :
      AnsweredInTurn puppet listed MOST_ENTRIES (opens (demo_site nodes) ∷ []) (all_asks (demo_requests nodes)) replies
      history
  pub whole : Whole puppet listed MOST_ENTRIES 1 (demo_site nodes) (all_asks (demo_requests nodes)) replies history
  pub is : output ≡ output_of replies (summary_text nodes replies history)
