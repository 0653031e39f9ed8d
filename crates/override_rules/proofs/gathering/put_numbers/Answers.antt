use Rattle.std.proofs.Common.{sym, ◌∙◌}
use Rattle.override_rules.proofs.Gathered.{put_place, put_end}
use Rattle.override_rules.proofs.gathering.put_numbers.Goals as goal

pub loop-number-preserved : goal.loop-number-preserved
loop-number-preserved c =
    c.loop-number.invariant
    ∙ put_place c.args.lines.now c.args.numbers.now c.loop-number.number-index c.loop-number.names.keys
    c.put_number.new.names.keys
    c.loop-number-test.true c.in_ok-put_number.ensures

pub returns : goal.returns
returns c =
    sym (c.loop-number.invariant
    ∙ put_end c.args.lines.now c.args.numbers.now c.loop-number.number-index c.loop-number.names.keys
    c.loop-number-test.false)
