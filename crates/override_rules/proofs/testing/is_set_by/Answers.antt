use Rattle.std.proofs.Common.{sym, ap, ◌∙◌}
use Rattle.override_rules.proofs.Walks.{is_set-after}
use Rattle.override_rules.proofs.testing.is_set_by.Goals as goal
use Rattle.override_rules.specs.Fold.{declared}
use Rattle.override_rules.specs.Numbers.{lines_at}
use Rattle.override_rules.specs.SetLines.{set_after_lines}

pub returns : goal.returns
returns c =
    let name = c.args.name.now in
    let ls = lines_at c.args.lines.now c.args.numbers.now in
    c.set_after_lines.ensures
    ∙ ap (set_after_lines name ls) c.is_declared-set.ensures
    ∙ sym (is_set-after name ls (declared c.args.item.now name))
