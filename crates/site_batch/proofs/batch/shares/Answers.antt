use Rattle.std.proofs.Common.{arith}
use Rattle.site_batch.specs.Shares.{seen_by}
use Rattle.site_batch.proofs.Splitting.{split_more, split_end}
use Rattle.site_batch.proofs.batch.shares.Goals as goal

pub loop-worker-preserved : goal.loop-worker-preserved
loop-worker-preserved g c =
    split_more c.args.site.now (seen_by c.args.pass) c.args.claims.now c.loop-worker._worker
    c.loop-worker.shares.items c.push.new.self.items c.loop-worker.pass c.split.new.pass c.in_ok-other.other
    c.loop-worker.seat c.split-in-loop-worker.new.seat c.in_ok-spare.spare c.loop-worker.invariant
    (omega (arith, c.loop-worker-test.true, c.requires.few)) c.split.ensures.front c.split.ensures.pass
    c.in_ok-other.ensures.new c.split-in-loop-worker.ensures.seat c.in_ok-spare.ensures.new c.in_ok-push.ensures.items

pub returns : goal.returns
returns g c =
    split_end c.args.site.now (seen_by c.args.pass) c.args.claims.now c.loop-worker._worker c.args.workers
    c.loop-worker.shares.items c.push-2.new.self.items c.loop-worker.pass c.loop-worker.seat c.loop-worker.invariant
    (omega (arith, c.loop-worker-test.false, c.loop-worker.auto)) c.in_ok-push-2.ensures.items
