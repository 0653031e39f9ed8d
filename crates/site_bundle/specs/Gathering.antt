-- What is kept of each file that is read of a folder.
use Rattle.std.specs.Prelude.{ℕ, ◌+◌, ◌-◌, Bool, ◌&&◌, if◌then◌else◌, nat_eq, nat_le, nat_lt, codes, List, [], length}
use Rattle.std.specs.Prelude.{take, Option, Some, None, option_and_then, Result, Ok, Err}
use Rattle.std.specs.FinMap.{put}
use Rattle.std.specs.List.{ends_with}
use Rattle.std.specs.Option.{ok_or}
use Rattle.std.specs.Str.{is_utf8}
use Rattle.agent_machine.specs.declared.machine_doc.MachineDoc.{MachineDoc}
use Rattle.pp_values.specs.Datum.{Datum}
use Rattle.pp_values.specs.Rising.{text_cmp}
use Rattle.pp_values.specs.declared.place.TheConstants.{MAIN_MANIFEST}
use Rattle.serde_json.specs.Data.{Data}
use Rattle.site_bundle.specs.declared.gathered.Gathered.{Gathered}
use Rattle.site_bundle.specs.declared.limits.TheConstants.{MOST_BUNDLE_BYTES, MOST_FILES}
use Rattle.site_bundle.specs.Documents.{json_of}
use Rattle.site_bundle.specs.Files.{lacks_main}
use Rattle.site_bundle.specs.Keeping.{no_files, with_text}
use Rattle.site_bundle.specs.Machines.{no_machine, machine_said}
use Rattle.site_bundle.specs.Nodes.{listed_facts}
use Rattle.site_bundle.specs.Refusals.{Refusal, bad_shape, too_large, result_and_then}

-- before the first file
abbrev pub nothing_gathered : Gathered
nothing_gathered = record { files = no_files; nodes = []; machine = no_machine; count = 0; size = 0 }

-- ---- limits

-- One file more may come, with this content. All files that are read count, of whatever kind, and so does their size.
abbrev pub may_come : List ℕ → Gathered → Bool
may_come content g = nat_lt g.count MOST_FILES && nat_le (g.size + length content) MOST_BUNDLE_BYTES

abbrev pub counted : List ℕ → Gathered → Gathered
counted content g = record g { count = g.count + 1; size = g.size + length content }

abbrev pub count_file : List ℕ → List ℕ → Gathered → Result Gathered Refusal
count_file path content g = if may_come content g then Ok (counted content g) else Err (too_large path)

-- ---- kinds of files

-- what is made of the content of the file at a path
abbrev pub Keep : Type 0
Keep = List ℕ → List ℕ → Gathered → Result Gathered Refusal

-- a file of the site, which is a text
abbrev pub site_file : Keep
site_file path content g =
    if is_utf8 content then Ok (record g { files = with_text path content g.files }) else Err (bad_shape path)

-- what is read, if nothing is wrong with it
abbrev pub if_good : {A : Type 0} → Result A Refusal → Option A
if_good (Ok x) = Some x
if_good (Err why) = None

-- the JSON that a text is
abbrev pub json_in : List ℕ → Option Data
json_in content = if_good (json_of content)

-- the facts of a node, if this is the name of one
abbrev pub facts_in : List ℕ → List ℕ → Option Datum
facts_in node content = option_and_then (listed_facts node) (json_in content)

-- whatever is wrong with them, it is told of the file
abbrev pub facts_file : List ℕ → Keep
facts_file node path content g =
    result_and_then (λ facts. Ok (record g { nodes = put text_cmp node facts g.nodes }))
    (ok_or (facts_in node content) (bad_shape path))

-- the machine, as a bundle may have it as its member
abbrev pub machine_in : List ℕ → Option MachineDoc
machine_in content = option_and_then (λ d. if_good (machine_said d)) (json_in content)

abbrev pub machine_file : Keep
machine_file path content g =
    result_and_then (λ machine. Ok (record g { machine = machine }))
    (ok_or (machine_in content) (bad_shape path))

-- A file that is not there is passed over, and does not count. One that is there counts before it is looked at.
abbrev pub gather : Keep → List ℕ → Option (List ℕ) → Gathered → Result Gathered Refusal
gather keep path None g = Ok g
gather keep path (Some content) g = result_and_then (keep path content) (count_file path content g)

-- a site has its main manifest
abbrev pub with_main : Gathered → Result Gathered Refusal
with_main g = if lacks_main g.files then Err (bad_shape MAIN_MANIFEST.now) else Ok g
