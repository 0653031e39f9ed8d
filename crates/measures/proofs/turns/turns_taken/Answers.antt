use Rattle.std.proofs.Common.{arith, ◌≡◌, ◌∙◌}
use Rattle.hist_lock.specs.Held.{IsShare}
use Rattle.measures.proofs.Zips.{zip_length, zip_all}
use Rattle.measures.proofs.turns.turns_taken.Goals as goal

pub join_passes-requires-clause-first : goal.join_passes-requires-clause-first
join_passes-requires-clause-first g c =
    let first = c.in_ok-jobs.ensures.first in let n = zip_length _ c.in_ok-jobs.jobs.items c.in_ok-passes.passes.items c.in_ok-passes.ensures in
    let count = first.1 in (omega (arith, n, count, c.requires), (first.0.0, first.0.1, omega (arith, n, first.0.2)))

pub join_passes-requires-clause-passes : goal.join_passes-requires-clause-passes
join_passes-requires-clause-passes g c =
    let lock = c.in_ok-lock.lock in
    zip_all _ (λ job. job.lock.now ≡ lock) (IsShare lock 1) (λ job out same share. (share.0 ∙ same, share.1, share.2)) c.in_ok-jobs.jobs.items c.in_ok-passes.passes.items c.in_ok-jobs.ensures.lock c.in_ok-passes.ensures
