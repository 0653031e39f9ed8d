use Rattle.std.proofs.Common.{arith}
use Rattle.json_documents.proofs.Cutting.{split_once_cuts}
use Rattle.agent_docs.proofs.report_reading.cut_title.Goals as goal

pub returns : goal.returns
returns c = split_once_cuts 91 _ _ c.split_once.ensures.cases (omega arith)
