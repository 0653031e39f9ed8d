use Rattle.std.proofs.Common.{◌≡◌, length}
use Rattle.http_wire.specs.Fields.{has_close}
use Rattle.http_wire.proofs.fields.has_close.Given as goal

abbrev pub invariant-loop-next : goal.invariant-loop-next
invariant-loop-next l = has_close l.left ≡ has_close l.members

abbrev pub decreases-loop-next : goal.decreases-loop-next
decreases-loop-next l = length l.left
