use Rattle.std.proofs.Common.{inl, inr, ap, ◌∙◌, min}
use Rattle.site_commands.proofs.Journals.{line_told, told_break}
use Rattle.site_commands.proofs.journal_input.first_bad.Goals as goal

pub returns-in-Ok : goal.returns-in-Ok
returns-in-Ok c =
    told_break c.bad_line.result c.args.line c.args.text.now c.bad_line.ensures
    (inl (c.in-Ok.history.entries, c.in-Ok.ensures, c.requires))

pub returns-in-Err-Bad : goal.returns-in-Err-Bad
returns-in-Err-Bad c =
    told_break c.bad_line-in-Err-Bad.result c.min.result c.args.text.now c.bad_line-in-Err-Bad.ensures
    (inr (
      c.in-Err-Bad.before,
      line_told c.in-Err-Bad.field-0 c.in-Err-Bad.before _ c.in-Err-Bad.field-0-is c.in-Err-Bad.ensures,
      c.min.ensures ∙ ap (min c.in-Err-Bad.before) c.requires,
    ))
