use Rattle.std.proofs.Common.{option_map, sym, ◌∙◌}
use Rattle.pp_values.specs.Views.{view}
use Rattle.override_rules.proofs.Walks.{after_place, after_end}
use Rattle.override_rules.proofs.fold.after_lines.Goals as goal

pub loop-number-preserved : goal.loop-number-preserved
loop-number-preserved c =
    c.loop-number.invariant
    ∙ after_place c.args.name.now c.args.lines.now c.args.numbers.now c.loop-number.number-index
    (option_map view c.loop-number.value)
    (option_map view c.in_ok-value.value) c.loop-number-test.true c.in_ok-value.ensures

pub returns : goal.returns
returns c =
    sym (c.loop-number.invariant
    ∙ after_end c.args.name.now c.args.lines.now c.args.numbers.now c.loop-number.number-index
    (option_map view c.loop-number.value)
    c.loop-number-test.false)
