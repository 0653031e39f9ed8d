use Rattle.std.proofs.Common.{◌≡◌, ◌-◌, Some, arith}
use Rattle.site_core.specs.EntryViews.{event_of}
use Rattle.site_core.specs.Events.{author_of}
use Rattle.history_tools.proofs.NextCalls.{by_someone}
use Rattle.history_tools.proofs.same_workers.by_worker.Goals as goal

pub returns : goal.returns
returns g c h counted =
    let author_is : author_of (event_of c.args.entry) ≡ Some c.in-Some.author = cc (c.author.ensures, c.in-Some.is) in
    let worker_is : c.saturating_sub-worker.result ≡ c.in-Some.author - c.args.base =
    omega (arith, c.saturating_sub-worker.ensures) in
    by_someone c.args.base c.in-Some.author c.saturating_sub-worker.result c.in_ok-call.call c.args.counts.now
    c.next_call.new.counts h (event_of c.args.entry) (event_of c.given_to.result) author_is worker_is
    c.in_ok-call.ensures.call c.given_to.ensures c.in_ok-call.ensures.raised counted
