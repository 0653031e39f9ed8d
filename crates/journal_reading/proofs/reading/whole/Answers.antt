use Rattle.std.proofs.Common.{◌≡◌, ◌+◌, Err, ap, ◌∙◌, arith}
use Rattle.journal_reading.proofs.Steps.{ended_well, ended_badly}
use Rattle.journal_reading.proofs.reading.whole.Goals as goal

pub returns-then-is_empty : goal.returns-then-is_empty
returns-then-is_empty c = ended_well _ _ _ _ c.is_empty.ensures c.if-is_empty.true

pub returns-else-is_empty : goal.returns-else-is_empty
returns-else-is_empty c =
    let two : c.args.count + 1 + 1 ≡ c.args.count + 2 = omega arith in
    ended_badly _ _ _ _ c.is_empty.ensures c.if-is_empty.false ∙ ap Err two
