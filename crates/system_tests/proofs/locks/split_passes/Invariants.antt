use Rattle.std.proofs.Common.{◌≡◌, ◌+◌, true, length, All}
use Rattle.hist_lock.specs.Held.{held, IsShare}
use Rattle.system_tests.proofs.locks.split_passes.Given as goal

abbrev pub invariant-loop : goal.invariant-loop
invariant-loop g l =
    (l.first.lock ≡ l.lock) × (l.first.turn ≡ true) × (l.turn.value.lines.items ≡ l.first.front)
    × (l.first.room + l.counter ≡ 65535) × (held l.first ≡ 1) × (length l.passes.items ≡ l.counter)
    × All (IsShare l.lock 1) l.passes.items
