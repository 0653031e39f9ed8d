use Rattle.std.proofs.Common.{◌≡◌, length}
use Rattle.http_wire.specs.Fields.{number_from}
use Rattle.http_wire.proofs.fields.number.Given as goal

abbrev pub invariant-loop-left : goal.invariant-loop-left
invariant-loop-left l = number_from l.number l.left ≡ number_from 0 l.digits

abbrev pub decreases-loop-left : goal.decreases-loop-left
decreases-loop-left l = length l.left
