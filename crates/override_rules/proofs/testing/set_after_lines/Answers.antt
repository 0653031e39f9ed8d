use Rattle.std.proofs.Common.{sym, ◌∙◌}
use Rattle.override_rules.proofs.Walks.{set_place, set_end}
use Rattle.override_rules.proofs.testing.set_after_lines.Goals as goal

pub loop-number-preserved : goal.loop-number-preserved
loop-number-preserved c =
    c.loop-number.invariant
    ∙ set_place c.args.name.now c.args.lines.now c.args.numbers.now c.loop-number.number-index c.loop-number.set
    c.set_after_number-set.result c.loop-number-test.true c.set_after_number-set.ensures

pub returns : goal.returns
returns c =
    sym (c.loop-number.invariant
    ∙ set_end c.args.name.now c.args.lines.now c.args.numbers.now c.loop-number.number-index c.loop-number.set
    c.loop-number-test.false)
