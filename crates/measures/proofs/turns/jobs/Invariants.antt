use Rattle.std.proofs.Common.{◌≡◌, ◌+◌, [], true, length, All}
use Rattle.hist_lock.specs.Held.{held}
use Rattle.measures.proofs.turns.jobs.Given as goal

abbrev pub invariant-loop : goal.invariant-loop
invariant-loop g l =
    (l.first.lock ≡ l.lock) × (l.first.turn ≡ true) × (l.first.front ≡ []) × (l.first.room + l.counter ≡ 65535) × (held l.first ≡ 1) × (length l.jobs.items ≡ l.counter) × All (λ job. job.lock.now ≡ l.lock) l.jobs.items
