use Rattle.std.proofs.Common.{subst, sym, take}
use Rattle.std.specs.Str.{IsUtf8, IsValidUpTo}
use Rattle.site_commands.proofs.Journals.{broken_wrong}
use Rattle.site_commands.proofs.journal_input.parse_journal.Goals as goal

pub bad_text-requires-clause-text : goal.bad_text-requires-clause-text
bad_text-requires-clause-text c =
    subst (λ m. IsUtf8 (take m c.args.bytes.now)) (sym c.valid_up_to.ensures) c.in-Err.ensures.cases.1.front

pub returns-in-Err-clause-read : goal.returns-in-Err-clause-read
returns-in-Err-clause-read c =
    broken_wrong c.bad_text.result c.args.bytes.now c.valid_up_to.result
    (subst (λ m. IsValidUpTo c.args.bytes.now m) (sym c.valid_up_to.ensures) c.in-Err.ensures.cases.1) c.bad_text.ensures
