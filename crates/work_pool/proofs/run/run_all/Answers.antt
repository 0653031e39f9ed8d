use Rattle.std.proofs.Common.{◌≡◌, subst, IfOk}
use Rattle.work_pool.specs.Groups.{gathered, AreOk}
use Rattle.work_pool.proofs.GroupLemmas.{all_results, if_ok}
use Rattle.work_pool.proofs.run.run_all.Goals as goal

pub returns : goal.returns
returns g c =
    let promise = g.J.Job.promise in let groups = c.in_ok-groups.groups.items in let parts = c.in_ok-parts.parts.items in
    if_ok _ _ (λ done is. all_results promise c.args.jobs.items done.items groups parts c.in_ok-groups.ensures.items
    (subst (λ r. IfOk r (λ all. all.items ≡ gathered parts)) is c.put_together.ensures.items)
    (subst (λ r. IfOk r (λ all. AreOk parts)) is c.put_together.ensures.ok)
    c.in_ok-parts.ensures)
