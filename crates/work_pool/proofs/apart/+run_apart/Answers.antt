use Rattle.std.proofs.Common.{◌≡◌, ◌∙◌, ap, sym, subst, subst₂, IfOk}
use Rattle.std.specs.List.{AllZip}
use Rattle.work_pool.proofs.GroupLemmas.{zip_push}
use Rattle.work_pool.proofs.apart.+run_apart.Goals as goal

pub returns-in_ok-push-in-Ok : goal.returns-in_ok-push-in-Ok
returns-in_ok-push-in-Ok g t c =
    let promise = g.J.Job.promise in let group = c.in-Some.group in
    let is : c.in-Ok.thread.promise.jobs.value ≡ group = ap (λ p. p.jobs.value) c.in-Ok.ensures.ok ∙ c.of.ensures in
    let kept = subst (λ jobs. IfOk c.join-part.result (λ done. AllZip promise jobs.items done.items)) is c.join-part.ensures in
    subst₂ (λ xs ys. AllZip (λ jobs part. IfOk part (λ done. AllZip promise jobs.items done.items)) xs ys) (sym c.in-Some.ensures.items) (sym c.in_ok-push-in-Ok.ensures.items)
    (zip_push (λ jobs part. IfOk part (λ done. AllZip promise jobs.items done.items)) c.pop.new.self.items c.in_ok-parts-in-Ok.parts.items group c.join-part.result c.in_ok-parts-in-Ok.ensures kept)

pub returns-in_ok-push-in-Err : goal.returns-in_ok-push-in-Err
returns-in_ok-push-in-Err g t c =
    let promise = g.J.Job.promise in let group = c.in-Some.group in
    let is : c.in-Err.refused.value.1 ≡ group = ap (λ run. run.1) c.in-Err.ensures.err in
    let kept = subst (λ jobs. IfOk c.run.result (λ done. AllZip promise jobs.items done.items)) is c.run.ensures in
    subst₂ (λ xs ys. AllZip (λ jobs part. IfOk part (λ done. AllZip promise jobs.items done.items)) xs ys) (sym c.in-Some.ensures.items) (sym c.in_ok-push-in-Err.ensures.items)
    (zip_push (λ jobs part. IfOk part (λ done. AllZip promise jobs.items done.items)) c.pop.new.self.items c.in_ok-parts-in-Err.parts.items group c.run.result c.in_ok-parts-in-Err.ensures kept)
