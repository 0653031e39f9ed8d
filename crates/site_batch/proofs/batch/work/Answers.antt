use Rattle.std.proofs.Common.{refl}
use Rattle.site_core.specs.Asked.{all_asks}
use Rattle.site_batch.specs.Work.{HasWorked}
use Rattle.site_batch.specs.Gathered.{shown}
use Rattle.site_batch.specs.Shares.{IsIdle}
use Rattle.site_batch.proofs.Jobs.{jobs_more, jobs_came, one_less, no_items}
use Rattle.site_batch.proofs.batch.work.Goals as goal

pub loop-pass-preserved : goal.loop-pass-preserved
loop-pass-preserved g c =
    let before = c.loop-pass.invariant in
    let more = jobs_more _ _ _ _ _ _ _ _ _ _ _ c.in_ok-push.ensures.items c.in-Some.ensures.steps.0
    (before.0, before.1, before.2) refl refl in
    (more.0, more.1, more.2, one_less _ _ _ _ _ before.3 c.in-Some.ensures.steps.1 c.in-Some.ensures.steps.0)

pub returns : goal.returns
returns g c =
    let before = c.loop-pass.invariant in
    jobs_came (λ w. (w.pass, w.seat)) (λ w. w.requests.now)
    (λ requests share out. HasWorked g.L.Language.meaning g.L.Language.listed (all_asks requests) share.0 share.1 out.pass out.seat
    (shown out.answers)) (IsIdle c.args.site.now c.args.claims.now) c.args.requests.now c.loop-pass.jobs.items _
    c.args.shares.items c.run_jobs.result (no_items _ _ before.3 c.in-None.ensures.steps.0)
    (before.0, before.1, before.2) c.run_jobs.ensures
