use Rattle.std.proofs.Common.{inl}
use Rattle.site_commands.proofs.Journals.{line_told, told_wrong}
use Rattle.site_commands.proofs.journal_input.parse_text.Goals as goal

pub returns-in-Err-Bad-clause-read : goal.returns-in-Err-Bad-clause-read
returns-in-Err-Bad-clause-read c = λ text. told_wrong c.bad_line.result c.in-Err-Bad.line c.args.text.now c.bad_line.ensures
    (inl (text, line_told c.in-Err-Bad.field-0 c.in-Err-Bad.line _ c.in-Err-Bad.field-0-is c.in-Err-Bad.ensures))
