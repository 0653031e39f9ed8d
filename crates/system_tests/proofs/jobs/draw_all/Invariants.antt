use Rattle.std.proofs.Common.{◌≡◌, ◌-◌}
use Rattle.system_tests.proofs.jobs.draw_all.Given as goal

abbrev pub invariant-loop-number : goal.invariant-loop-number
invariant-loop-number l =
    (l.seat.claims ≡ l.claims) × (l.seat.room ≡ l.initial.seat.room) × (l.seat.held ≡ l.initial.seat.held)

abbrev pub decreases-loop-number : goal.decreases-loop-number
decreases-loop-number l = l.claims.count - l.seat.known
