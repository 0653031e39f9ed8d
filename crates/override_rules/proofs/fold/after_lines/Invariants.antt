use Rattle.std.proofs.Common.{◌≡◌, drop, option_map}
use Rattle.pp_values.specs.Views.{view}
use Rattle.override_rules.proofs.fold.after_lines.Given as goal
use Rattle.override_rules.specs.Fold.{after_lines}
use Rattle.override_rules.specs.Numbers.{lines_at}

abbrev pub invariant-loop-number : goal.invariant-loop-number
invariant-loop-number l =
    after_lines l.name (lines_at l.lines l.numbers) (option_map view l.fn.start)
    ≡ after_lines l.name (lines_at l.lines (drop l.number-index l.numbers)) (option_map view l.value)
