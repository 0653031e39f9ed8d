use Rattle.agent_docs.proofs.ReportsBack.{reports_told_apart}
use Rattle.agent_docs.proofs.report_texts.reports_are_told_apart.Goals as goal

pub returns : goal.returns
returns c = reports_told_apart
