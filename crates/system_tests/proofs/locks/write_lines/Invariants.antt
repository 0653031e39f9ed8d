use Rattle.std.proofs.Common.{◌≡◌, false}
use Rattle.system_tests.proofs.locks.write_lines.Given as goal

abbrev pub invariant-loop-number : goal.invariant-loop-number
invariant-loop-number g l =
    (l.pass.lock ≡ l.lock) × (l.pass.turn ≡ false)
    × (l.pass.room ≡ l.initial.pass.room) × (l.pass.numbers ≡ l.initial.pass.numbers)
