use Rattle.std.proofs.Common.{length, ap, arith}
use Rattle.site_io.proofs.Streams.{Rose-after}
use Rattle.http_wire.proofs.Gathering.{then_more, then_nothing, then_failed, lost_read}
use Rattle.http_wire.proofs.filling.fill_to.Goals as goal

pub loop-bytes-preserved : goal.loop-bytes-preserved
loop-bytes-preserved g c =
    let e = c.in-Done.ensures in then_more c.loop-bytes.invariant (omega arith) e.1 e.2 e.3

pub returns-in-Ended : goal.returns-in-Ended
returns-in-Ended g c =
    let e = c.in-Ended.ensures in
    let same = ap length e.0 in
    (then_nothing c.loop-bytes.invariant (omega arith) e.0 e.1, omega (arith, same), e.2)

pub returns-in-Failed : goal.returns-in-Failed
returns-in-Failed g c =
    let e = c.in-Failed.ensures in
    let same = ap length e.0 in
    (then_failed c.loop-bytes.invariant e.0 e.1, omega (arith, same), Rose-after _ _ _ c.loop-bytes.invariant.read.later e.1.rose)

pub returns-in-Memory : goal.returns-in-Memory
returns-in-Memory g c = lost_read c.loop-bytes.invariant (omega arith) c.in-Memory.ensures.1
