use Rattle.std.proofs.Common.{◌≡◌, length}
use Rattle.http_wire.specs.Places.{after}
use Rattle.http_wire.proofs.places.Place.after.Given as goal

abbrev pub invariant-loop-left : goal.invariant-loop-left
invariant-loop-left l = after l.place l.left ≡ after l.fn.self l.fn.bytes

abbrev pub decreases-loop-left : goal.decreases-loop-left
decreases-loop-left l = length l.left
