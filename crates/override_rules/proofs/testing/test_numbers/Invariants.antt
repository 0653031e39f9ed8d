use Rattle.std.proofs.Common.{◌≡◌, [], take, drop}
use Rattle.override_rules.proofs.testing.test_numbers.Given as goal
use Rattle.override_rules.specs.Numbers.{lines_at}
use Rattle.override_rules.specs.Rights.{line_tests}

abbrev pub invariant-loop-at : goal.invariant-loop-at
invariant-loop-at l =
    line_tests l.item l.evaluated [] (lines_at l.lines l.numbers)
    ≡ line_tests l.item l.evaluated (lines_at l.lines (take l.at l.numbers)) (lines_at l.lines (drop l.at l.numbers))
