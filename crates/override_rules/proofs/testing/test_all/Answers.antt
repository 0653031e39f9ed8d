use Rattle.std.proofs.Common.{[], subst}
use Rattle.pp_values.specs.Answers.{Answers}
use Rattle.override_rules.proofs.testing.test_all.Goals as goal
use Rattle.override_rules.specs.Rights.{line_tests}

pub returns : goal.returns
returns c =
    subst (λ ls. Answers c.test_numbers.result (line_tests c.args.item.now c.args.evaluated [] ls)) c.on.ensures.lines
    c.test_numbers.ensures
