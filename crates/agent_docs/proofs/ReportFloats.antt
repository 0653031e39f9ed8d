-- No report has a float, so that its text is exact.
use Rattle.std.proofs.Common.{◌≡◌, ℕ, false, List, Option, Some, None, refl}
use Rattle.serde_json.specs.Data.{string}
use Rattle.serde_json.specs.Written.{has_float}
use Rattle.agent_machine.specs.declared.report.Report.{Report}
use Rattle.agent_machine.specs.declared.report_line.ReportLine.{ReportLine}
use Rattle.json_values.proofs.Floats.{either, all_no_float}
use Rattle.agent_docs.specs.ReportText.{fault_data, line_object, line_data, report_object, report_data, first_object, first_data}

fault_no_float : (fault : Option (List ℕ)) → has_float (fault_data fault) ≡ false
fault_no_float None = refl
fault_no_float (Some text) = refl

line_no_float : (l : ReportLine) → has_float (line_data l) ≡ false
unfolding line_data line_object
line_no_float l = either _ _ (all_no_float string (λ t. refl) l.changes) (either _ _ (fault_no_float l.fault) refl)

pub report_no_float : (r : Report) → has_float (report_data r) ≡ false
unfolding report_data report_object
report_no_float r = either _ _ (all_no_float line_data line_no_float r.lines) refl

pub first_no_float : (r : Report) → has_float (first_data r) ≡ false
unfolding first_data first_object
first_no_float r = either _ _ (all_no_float line_data line_no_float r.lines) refl
