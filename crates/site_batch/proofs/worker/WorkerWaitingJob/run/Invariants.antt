-- What was answered so far, and that there is a request for each number.
use Rattle.std.proofs.Common.{◌-◌}
use Rattle.site_core.specs.Asked.{all_asks}
use Rattle.site_batch.specs.Work.{HasAnswered}
use Rattle.site_batch.proofs.worker.WorkerWaitingJob.run.Given as goal

abbrev pub invariant-loop-index : goal.invariant-loop-index
invariant-loop-index g l =
    HasAnswered g.L.Language.meaning g.L.Language.listed (all_asks l.requests) l.initial.pass l.pass l.initial.seat l.seat
    l.answers.items

abbrev pub decreases-loop-index : goal.decreases-loop-index
decreases-loop-index g l = l.claims.count - l.seat.known
