use Rattle.http_wire.proofs.Deciding.{at_full, at_end, at_fault}
use Rattle.http_wire.proofs.reading.read_head.Goals as goal

pub returns-in-Full : goal.returns-in-Full
returns-in-Full g c = at_full c.in-Full.ensures.0 _ c.in-Full.ensures.1 c.head_at_last.ensures

pub returns-else-is_empty : goal.returns-else-is_empty
returns-else-is_empty g c =
    at_end c.in-Ended.ensures.0 _ c.in-Ended.ensures.1 c.in-Ended.ensures.2
    (λ none. absurd (let t = c.is_empty.ensures.1 none in cc)) c.head_at_last-in-Ended.ensures

pub returns-in-Failed : goal.returns-in-Failed
returns-in-Failed g c = at_fault c.in-Failed.ensures.0 _ c.in-Failed.ensures.1 c.in-Failed.ensures.2 c.head_at_last-in-Failed.ensures
