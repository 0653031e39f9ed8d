-- Each share so far has a job, and the others are left.
use Rattle.std.proofs.Common.{◌≡◌, ◌++◌, map, length}
use Rattle.std.specs.Vec.Iter.{into_iter_items, into_iter_len}
use Rattle.site_core.specs.Each.{Each}
use Rattle.site_batch.specs.Shares.{IsIdle}
use Rattle.site_batch.proofs.batch.work.Given as goal

abbrev pub invariant-loop-pass : goal.invariant-loop-pass
invariant-loop-pass g l =
    (map (λ w. (w.pass, w.seat)) l.jobs.items ++ into_iter_items l.pass-iterator ≡ l.fn.shares.items)
    × Each (IsIdle l.site l.claims) (into_iter_items l.pass-iterator)
    × Each (λ w. w.requests.now ≡ l.requests) l.jobs.items
    × (into_iter_len l.pass-iterator ≡ length (into_iter_items l.pass-iterator))
