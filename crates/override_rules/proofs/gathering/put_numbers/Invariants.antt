use Rattle.std.proofs.Common.{◌≡◌, drop}
use Rattle.pp_values.specs.Rising.{with_texts}
use Rattle.override_rules.proofs.gathering.put_numbers.Given as goal
use Rattle.override_rules.specs.Names.{line_names}
use Rattle.override_rules.specs.Numbers.{lines_at}

abbrev pub invariant-loop-number : goal.invariant-loop-number
invariant-loop-number l =
    with_texts l.initial.names.keys (line_names (lines_at l.lines l.numbers))
    ≡ with_texts l.names.keys (line_names (lines_at l.lines (drop l.number-index l.numbers)))
