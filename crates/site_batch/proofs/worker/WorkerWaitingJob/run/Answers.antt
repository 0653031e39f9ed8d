use Rattle.site_core.specs.Asked.{all_asks}
use Rattle.site_batch.proofs.Requested.{asks_at}
use Rattle.site_batch.proofs.Turns.{stepped, drained}
use Rattle.site_batch.proofs.worker.WorkerWaitingJob.run.Goals as goal

pub loop-index-preserved : goal.loop-index-preserved
loop-index-preserved g c =
    stepped g.L.Language.meaning g.L.Language.listed (all_asks c.args.self.requests.now) c.args.self.pass c.loop-index.pass
    c.answer-reply.new.pass c.args.self.seat c.loop-index.seat c.next.new.seat c.loop-index.answers.items
    c.push.new.self.items _ _ c.loop-index.invariant c.in-Some.ensures.draws (asks_at c.args.self.requests.now _ _ c.request_at-request.ensures.at)
    c.answer-reply.ensures c.keeps-in-Some.ensures.few c.in-Ok.ensures.items

pub returns : goal.returns
returns g c =
    drained g.L.Language.meaning g.L.Language.listed (all_asks c.args.self.requests.now) c.args.self.pass c.loop-index.pass
    c.args.self.seat c.loop-index.seat c.next.new.seat c.loop-index.answers.items c.loop-index.invariant
    c.in_default.ensures.draws
