use Rattle.std.proofs.Common.{◌≡◌}
use Rattle.system_tests.proofs.shared.play_all.Given as goal

abbrev pub invariant-loop-event : goal.invariant-loop-event
invariant-loop-event g l =
    (l.pass.site ≡ l.site) × (l.pass.room ≡ l.initial.pass.room) × (l.pass.numbers ≡ l.initial.pass.numbers)
    × (l.pass.terms ≡ l.initial.pass.terms)
