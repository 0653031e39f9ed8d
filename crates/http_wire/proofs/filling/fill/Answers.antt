use Rattle.std.proofs.Common.{arith}
use Rattle.http_wire.proofs.Gathering.{filled}
use Rattle.http_wire.proofs.filling.fill.Goals as goal

pub returns-in-Ok : goal.returns-in-Ok
returns-in-Ok g c = filled _ _ _ _ c.in-Bytes.ensures c.in-Ok.ensures.ok (omega arith)
