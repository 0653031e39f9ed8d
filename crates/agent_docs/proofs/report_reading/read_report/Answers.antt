use Rattle.std.proofs.Common.{arith}
use Rattle.json_documents.proofs.OneLines.{one_line_reads}
use Rattle.agent_docs.specs.ReportText.{IsReportLine}
use Rattle.agent_docs.specs.ReportReading.{report_in}
use Rattle.agent_docs.proofs.ReportsRead.{report_one, report_sound, report_complete, some_report}
use Rattle.agent_docs.proofs.report_reading.read_report.Goals as goal

pub returns : goal.returns
returns c =
    one_line_reads IsReportLine report_in report_one report_sound report_complete some_report c.args.text.now
    (omega arith) _ c.read_whole.ensures
