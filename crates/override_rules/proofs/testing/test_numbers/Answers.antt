use Rattle.std.proofs.Common.{[], ◌∙◌}
use Rattle.std.proofs.lemmas.Result.{err_from_is_err_and}
use Rattle.override_rules.proofs.Walks.{tests_start, tests_stop, tests_go_on, tests_end}
use Rattle.override_rules.proofs.testing.test_numbers.Goals as goal
use Rattle.override_rules.specs.Numbers.{lines_at}
use Rattle.override_rules.specs.Rights.{line_tests}

pub loop-at-init : goal.loop-at-init
loop-at-init c = tests_start c.args.item.now c.args.evaluated c.args.lines.now c.args.numbers.now

pub returns-in_err-test_number : goal.returns-in_err-test_number
returns-in_err-test_number c =
    let p = err_from_is_err_and c.from_residual.result c.from_residual.ensures.1 in
    rw (p.1, p.2)
    (tests_stop c.args.item.now c.args.evaluated c.args.lines.now c.args.numbers.now c.loop-at.at
    (line_tests c.args.item.now c.args.evaluated [] (lines_at c.args.lines.now c.args.numbers.now))
    c.in_err-test_number.field-0.0
    c.loop-at-test.true c.in_err-test_number.ensures c.loop-at.invariant)

pub loop-at-preserved : goal.loop-at-preserved
loop-at-preserved c =
    tests_go_on c.args.item.now c.args.evaluated c.args.lines.now c.args.numbers.now c.loop-at.at
    (line_tests c.args.item.now c.args.evaluated [] (lines_at c.args.lines.now c.args.numbers.now))
    c.loop-at-test.true c.in_ok-test_number.ensures c.loop-at.invariant

pub returns : goal.returns
returns c =
    c.loop-at.invariant
    ∙ tests_end c.args.item.now c.args.evaluated c.args.lines.now c.args.numbers.now c.loop-at.at c.loop-at-test.false
