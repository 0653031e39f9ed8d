-- What the documents of reports tell.
use Rattle.std.specs.Prelude.{◌≡◌, IsTrue}
use Rattle.std.specs.List.{list_all}
use Rattle.agent_machine.specs.declared.report.Report.{Report}
use Rattle.json_documents.specs.SmallNumbers.{has_small}
use Rattle.agent_docs.specs.ReportText.{names_kind, report_data, report_text}

-- No two reports have one text.
abbrev pub ReportsAreToldApart : Type 0
ReportsAreToldApart =
    (r s : Report) → IsTrue (list_all names_kind r.lines) → IsTrue (list_all names_kind s.lines) →
    IsTrue (has_small (report_data r)) → IsTrue (has_small (report_data s)) → report_text r ≡ report_text s → r ≡ s
