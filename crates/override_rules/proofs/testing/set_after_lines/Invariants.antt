use Rattle.std.proofs.Common.{◌≡◌, drop}
use Rattle.override_rules.proofs.testing.set_after_lines.Given as goal
use Rattle.override_rules.specs.Numbers.{lines_at}
use Rattle.override_rules.specs.SetLines.{set_after_lines}

abbrev pub invariant-loop-number : goal.invariant-loop-number
invariant-loop-number l =
    set_after_lines l.name (lines_at l.lines l.numbers) l.fn.start
    ≡ set_after_lines l.name (lines_at l.lines (drop l.number-index l.numbers)) l.set
