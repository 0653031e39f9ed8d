use Rattle.std.proofs.Common.{sym, ap, subst, ◌∙◌}
use Rattle.std.specs.Prelude.{option_to_list}
use Rattle.pp_values.specs.Answers.{Answers}
use Rattle.override_rules.proofs.Walks.{tests_none, tests_once}
use Rattle.override_rules.proofs.testing.test_number.Goals as goal
use Rattle.override_rules.specs.Lines.{line_of}
use Rattle.override_rules.specs.Numbers.{lines_at}
use Rattle.override_rules.specs.Rights.{line_test, line_tests}

pub returns-in-Some : goal.returns-in-Some
returns-in-Some c =
    let d = c.args.item.now in
    let e = c.args.evaluated in
    let done = lines_at c.args.lines.now c.args.done.now in
    let l = line_of c.in-Some.line.now in
    subst (λ m. Answers c.line_test.result m)
    (ap (λ s. line_test d e s l) c.is_set_by-set.ensures
    ∙ sym (tests_once d e done l) ∙ ap (λ o. line_tests d e done (option_to_list o)) c.in-Some.ensures)
    c.line_test.ensures

pub returns-in-None : goal.returns-in-None
returns-in-None c =
    let d = c.args.item.now in
    let e = c.args.evaluated in
    let done = lines_at c.args.lines.now c.args.done.now in
    ap (λ o. line_tests d e done (option_to_list o)) (sym c.in-None.ensures) ∙ tests_none d e done
