use Rattle.std.proofs.Common.{◌≡◌, length, map}
use Rattle.http_wire.specs.Fields.{asks_to_close}
use Rattle.httparse.specs.Borrowed.{header_parts}
use Rattle.http_wire.proofs.fields.asks_to_close.Given as goal

abbrev pub invariant-loop-left : goal.invariant-loop-left
invariant-loop-left l = asks_to_close (map header_parts l.left) ≡ asks_to_close (map header_parts l.fields)

abbrev pub decreases-loop-left : goal.decreases-loop-left
decreases-loop-left l = length l.left
