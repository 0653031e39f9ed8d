use Rattle.http_wire.proofs.Deciding.{body_then}
use Rattle.http_wire.proofs.reading.read_request.Goals as goal

pub returns-in-Found : goal.returns-in-Found
returns-in-Found g c = body_then _ _ _ _ _ _ c.in-Found.ensures.0 _ c.read_behind.ensures
