use Rattle.std.proofs.Common.{◌≡◌, length, map}
use Rattle.http_wire.specs.Fields.{values}
use Rattle.httparse.specs.Borrowed.{header_parts}
use Rattle.http_wire.proofs.fields.next_value.Given as goal

abbrev pub invariant-loop-left : goal.invariant-loop-left
invariant-loop-left l = values l.name (map header_parts l.left) ≡ values l.name (map header_parts l.fields)

abbrev pub decreases-loop-left : goal.decreases-loop-left
decreases-loop-left l = length l.left
