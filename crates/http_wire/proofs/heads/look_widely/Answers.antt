use Rattle.std.proofs.Common.{arith}
use Rattle.http_wire.proofs.Fronts.{never_wider}
use Rattle.http_wire.proofs.heads.look_widely.Goals as goal

pub unreachable-requires : goal.unreachable-requires
unreachable-requires c = never_wider c.args.bytes.now _ c.requires (omega (arith, c.in-Ok.ensures.len, c.deref_mut.ensures.len)) c.in-None.ensures
