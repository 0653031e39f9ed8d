use Rattle.std.proofs.Common.{arith}
use Rattle.json_documents.proofs.Cutting.{split_once_cuts}
use Rattle.json_documents.proofs.lines.cut_line.Goals as goal

pub returns : goal.returns
returns c = split_once_cuts 10 _ _ c.split_once.ensures.cases (omega arith)
