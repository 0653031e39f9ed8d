use Rattle.std.proofs.Common.{◌-◌, length}
use Rattle.http_wire.specs.Reading.{HasGathered, IsShorter}
use Rattle.http_wire.proofs.filling.fill_to.Given as goal

abbrev pub invariant-loop-bytes : goal.invariant-loop-bytes
invariant-loop-bytes g l = HasGathered (IsShorter l.size) l.fn.bytes l.bytes (g.S.Outside.stream l.fn.from) (g.S.Outside.stream l.from)

abbrev pub decreases-loop-bytes : goal.decreases-loop-bytes
decreases-loop-bytes g l = l.size - length l.bytes
