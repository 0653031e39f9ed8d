use Rattle.agent_docs.proofs.ClosedTitles.{stripped}
use Rattle.agent_docs.proofs.report_reading.unclosed.Goals as goal

pub returns : goal.returns
returns c = stripped _ _ c.strip_suffix.ensures.cases
