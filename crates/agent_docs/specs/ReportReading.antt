-- How the line of a report is read: as JSON, as the report that this says, and by a comparison with its own line.
use Rattle.std.specs.Prelude.{ℕ, ◌==◌, Bool, false, not, ◌&&◌, ◌||◌, if◌then◌else◌, List, [], ◌∷◌, codes, Option, Some}
use Rattle.std.specs.Prelude.{None, option_map, option_and_then}
use Rattle.std.specs.Str.{bytes_eq, str_to_ascii_lowercase}
use Rattle.serde_json.specs.Data.{Data, Items, no_items, item}
use Rattle.serde_json.specs.Find.{get, as_array, as_bool, as_number, as_str, as_u64}
use Rattle.serde_json.specs.Read.{read}
use Rattle.serde_json.specs.Written.{compact_text}
use Rattle.pp_values.specs.Kinds.{kind_of}
use Rattle.pp_values.specs.declared.reference.Reference.{Reference}
use Rattle.agent_machine.specs.declared.status.Status.{Status}
use Rattle.agent_machine.specs.declared.status.Status.TheVariants as status
use Rattle.agent_machine.specs.declared.report_line.ReportLine.{ReportLine}
use Rattle.agent_machine.specs.declared.report.Report.{Report}
use Rattle.json_values.specs.FromData.{both}
use Rattle.json_documents.specs.LinesOfText.{cut_at}
use Rattle.agent_docs.specs.ReportText.{report_text, first_data, is_first}

-- ---- a reference as it is printed: `File[/a]`

-- the text without a bracket at its end
abbrev pub unclosed : List ℕ → Option (List ℕ)
unclosed [] = None
unclosed (b ∷ []) = if b == 93 then Some [] else None
unclosed (b ∷ c ∷ cs) = option_map (λ t. b ∷ t) (unclosed (c ∷ cs))

abbrev pub reference_of : List ℕ × List ℕ → Option Reference
reference_of p =
    both (λ kind title. record { kind = kind; title = title }) (kind_of (str_to_ascii_lowercase p.0)) (unclosed p.1)

abbrev pub reference_said : List ℕ → Option Reference
reference_said text = option_and_then reference_of (cut_at 91 text)

-- ---- a line

abbrev pub status_said : List ℕ → Option Status
status_said t =
    if bytes_eq t (codes "unchanged") then Some status.Unchanged
    else if bytes_eq t (codes "changed") then Some status.Changed
    else if bytes_eq t (codes "failed") then Some status.Failed
    else if bytes_eq t (codes "skipped") then Some status.Skipped
    else if bytes_eq t (codes "noop") then Some status.Noop
    else None

abbrev pub texts_said : Items → Option (List (List ℕ))
texts_said no_items = Some []
texts_said (item d ds) = both (λ t ts. t ∷ ts) (as_str d) (texts_said ds)

abbrev pub text_at : List ℕ → Data → Option (List ℕ)
text_at key d = option_and_then as_str (get key d)

abbrev pub items_at : List ℕ → Data → Option Items
items_at key d = option_and_then as_array (get key d)

-- what a line says of the resource itself
abbrev pub item_said : Data → Option (Reference × (Status × Bool))
item_said d =
    both (λ item rest. (item, rest)) (option_and_then reference_said (text_at (codes "ref") d))
    (both (λ status refreshed. (status, refreshed)) (option_and_then status_said (text_at (codes "status") d))
    (option_and_then as_bool (get (codes "refreshed") d)))

abbrev pub changes_said : Data → Option (List (List ℕ))
changes_said d = option_and_then texts_said (items_at (codes "changes") d)

abbrev pub line_of : Option (List ℕ) → Reference × (Status × Bool) → List (List ℕ) → ReportLine
line_of fault said changes = record {
  item = said.0;
  status = said.1.0;
  changes = changes;
  refreshed = said.1.1;
  fault = fault;
}

unfoldable pub line_said : Data → Option ReportLine
line_said d = both (line_of (text_at (codes "fault") d)) (item_said d) (changes_said d)

abbrev pub lines_said : Items → Option (List ReportLine)
lines_said no_items = Some []
lines_said (item d ds) = both (λ l ls. l ∷ ls) (line_said d) (lines_said ds)

-- ---- a report

unfoldable pub report_said : Data → Option Report
report_said d =
    both (λ node lines. record { node = node; lines = lines }) (text_at (codes "node") d)
    (option_and_then lines_said (items_at (codes "resources") d))

abbrev pub is_one : Option ℕ → Bool
is_one None = false
is_one (Some n) = n == 1

-- the version is the first one
unfoldable pub says_first : Data → Bool
says_first d = is_one (option_and_then as_u64 (option_and_then as_number (get (codes "report") d)))

-- the line of the report in this version
abbrev pub text_in : Bool → Report → List ℕ
text_in first r = if first then compact_text (first_data r) else report_text r

-- a second spelling is refused, and so is what the first version knows nothing of
abbrev pub is_written : Bool → List ℕ → Report → Bool
is_written first line r = (not first || is_first r) && bytes_eq (text_in first r) line

abbrev pub if_written : Bool → List ℕ → Report → Option Report
if_written first line r = if is_written first line r then Some r else None

abbrev pub report_written : List ℕ → Data → Option Report
report_written line d = option_and_then (if_written (says_first d) line) (report_said d)

abbrev pub report_in : List ℕ → Option Report
report_in line = option_and_then (report_written line) (read line)
