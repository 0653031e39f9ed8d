use Rattle.std.proofs.Common.{subst, sym, ◌++◌, ◌∷◌, []}
use Rattle.std.specs.List.{AllZip}
use Rattle.work_pool.proofs.GroupLemmas.{zip_push}
use Rattle.work_pool.proofs.apart.run_in_turn.Goals as goal

pub loop-job-preserved : goal.loop-job-preserved
loop-job-preserved g c =
    let jobs = c.loop-job.yielded ++ c.in-Some.job ∷ [] in
    subst (λ l. AllZip g.J.Job.promise jobs l) (sym c.in_ok-push.ensures.items) (zip_push g.J.Job.promise c.loop-job.yielded c.loop-job.done.items c.in-Some.job c.run.result c.loop-job.invariant c.run.ensures)
