use Rattle.std.proofs.Common.{sym, ap, ◌∙◌}
use Rattle.std.specs.Prelude.{option_to_list}
use Rattle.override_rules.proofs.Walks.{set_one, set_no}
use Rattle.override_rules.proofs.testing.set_after_number.Goals as goal
use Rattle.override_rules.specs.Lines.{line_of}
use Rattle.override_rules.specs.SetLines.{set_after_lines}

pub returns-in-Some : goal.returns-in-Some
returns-in-Some c =
    let name = c.args.name.now in
    c.set_after.ensures
    ∙ sym (set_one name (line_of c.in-Some.line.now) c.args.set)
    ∙ ap (λ o. set_after_lines name (option_to_list o) c.args.set) c.in-Some.ensures

pub returns-in-None : goal.returns-in-None
returns-in-None c =
    let name = c.args.name.now in
    sym (set_no name c.args.set) ∙ ap (λ o. set_after_lines name (option_to_list o) c.args.set) c.in-None.ensures
