-- The text of a report: compact JSON, with the members of each object in byte order. There are two versions of this
-- form: the second is written, and both are read.
use Rattle.std.specs.Prelude.{◌≡◌, ◌⊎◌, IsTrue, ℕ, Bool, true, false, not, ◌&&◌, ◌||◌, nat_lt, List, length, Option}
use Rattle.std.specs.Prelude.{None, Some, map, codes}
use Rattle.std.specs.List.{count_by, list_all}
use Rattle.serde_json.specs.Data.{Data, null, boolean, string, array, object, no_members, member}
use Rattle.serde_json.specs.View.{items_of}
use Rattle.serde_json.specs.Written.{compact_text}
use Rattle.pp_values.specs.Kinds.{is_kind}
use Rattle.pp_values.specs.Words.{reference_text}
use Rattle.agent_machine.specs.declared.status.Status.{Status}
use Rattle.agent_machine.specs.declared.status.Status.TheVariants as status
use Rattle.agent_machine.specs.declared.report_line.ReportLine.{ReportLine}
use Rattle.agent_machine.specs.declared.report.Report.{Report}
use Rattle.json_documents.specs.Tokens.{index_data}
use Rattle.json_documents.specs.LinesOfText.{IsOneLine}

abbrev pub status_text : Status → List ℕ
status_text status.Unchanged = codes "unchanged"
status_text status.Changed = codes "changed"
status_text status.Failed = codes "failed"
status_text status.Skipped = codes "skipped"
status_text status.Noop = codes "noop"

-- ---- what is counted of the lines

abbrev pub is_noop : Status → Bool
is_noop status.Unchanged = false
is_noop status.Changed = false
is_noop status.Failed = false
is_noop status.Skipped = false
is_noop status.Noop = true

abbrev pub is_failed : Status → Bool
is_failed status.Unchanged = false
is_failed status.Changed = false
is_failed status.Failed = true
is_failed status.Skipped = false
is_failed status.Noop = false

-- something was done: there are changes or a refresh, and they were not only looked at
abbrev pub has_changed : ReportLine → Bool
has_changed l = not (is_noop l.status) && (nat_lt 0 (length l.changes) || l.refreshed)

abbrev pub has_failed : ReportLine → Bool
has_failed l = is_failed l.status

abbrev pub was_noop : ReportLine → Bool
was_noop l = is_noop l.status

-- ---- the document

abbrev pub fault_data : Option (List ℕ) → Data
fault_data None = null
fault_data (Some text) = string text

-- a line, from the forms of its parts
unfoldable pub line_object : (changes fault : Data) → List ℕ → Bool → List ℕ → Data
line_object changes fault reference refreshed status =
    object (member (codes "changes") changes
    (member (codes "fault") fault
    (member (codes "ref") (string reference)
    (member (codes "refreshed") (boolean refreshed)
    (member (codes "status") (string status) no_members)))))

unfoldable pub line_data : ReportLine → Data
line_data l =
    line_object (array (items_of (map string l.changes))) (fault_data l.fault) (reference_text l.item) l.refreshed
    (status_text l.status)

-- a report, from what is counted, the node and the forms of its lines; 2 is the version of this form
unfoldable pub report_object : (changed failed : ℕ) → List ℕ → ℕ → Data → Data
report_object changed failed node noop lines =
    object (member (codes "changed") (index_data changed)
    (member (codes "failed") (index_data failed)
    (member (codes "node") (string node)
    (member (codes "noop") (index_data noop)
    (member (codes "report") (index_data 2)
    (member (codes "resources") lines no_members))))))

unfoldable pub report_data : Report → Data
report_data r =
    report_object (count_by has_changed r.lines) (count_by has_failed r.lines) r.node (count_by was_noop r.lines)
    (array (items_of (map line_data r.lines)))

-- without a line feed at the end
abbrev pub report_text : Report → List ℕ
report_text r = compact_text (report_data r)

-- ---- the first version, which knows nothing of resources that are only looked at

unfoldable pub first_object : (changed failed : ℕ) → List ℕ → Data → Data
first_object changed failed node lines =
    object (member (codes "changed") (index_data changed)
    (member (codes "failed") (index_data failed)
    (member (codes "node") (string node)
    (member (codes "report") (index_data 1)
    (member (codes "resources") lines no_members)))))

unfoldable pub first_data : Report → Data
first_data r =
    first_object (count_by has_changed r.lines) (count_by has_failed r.lines) r.node
    (array (items_of (map line_data r.lines)))

abbrev pub is_first : Report → Bool
is_first r = list_all (λ l. not (was_noop l)) r.lines

-- ---- which texts are reports

-- a line is about a resource of some kind
abbrev pub names_kind : ReportLine → Bool
names_kind l = is_kind l.item.kind

abbrev pub IsReport : Report → Type 0
IsReport r = IsTrue (list_all names_kind r.lines)

-- the line of a report, in either version
abbrev pub IsReportLine : Report → List ℕ → Type 0
IsReportLine r text =
    IsReport r × ((text ≡ report_text r) ⊎ ((is_first r ≡ true) × (text ≡ compact_text (first_data r))))

-- such a line with a line feed at its end
abbrev pub IsReportText : Report → List ℕ → Type 0
IsReportText = IsOneLine IsReportLine
