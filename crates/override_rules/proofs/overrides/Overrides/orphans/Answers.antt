use Rattle.std.proofs.Common.{option_map, find, sym, ap, ◌∙◌}
use Rattle.override_rules.proofs.Found.{seen_line, found_line}
use Rattle.override_rules.proofs.overrides.Overrides.orphans.Goals as goal
use Rattle.override_rules.specs.Lines.{line_of}
use Rattle.override_rules.specs.Meaning.{is_orphan}

pub returns : goal.returns
returns c =
    seen_line c.first_orphan.result
    ∙ ap (option_map line_of) c.first_orphan.ensures
    ∙ sym (found_line (is_orphan c.args.book.now) c.as_slice.result.now)
    ∙ ap (find (is_orphan c.args.book.now)) (c.as_slice.ensures ∙ ap (λ s. s.lines) c.self.view_is)
