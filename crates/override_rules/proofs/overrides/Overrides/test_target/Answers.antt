use Rattle.std.proofs.Common.{sym}
use Rattle.res_book.proofs.Rows.{number_of-below}
use Rattle.override_rules.proofs.overrides.Overrides.test_target.Goals as goal

pub row-requires : goal.row-requires
row-requires c = number_of-below c.args.line.now.target c.args.book.now c.in-Some.number (sym c.in-Some.ensures)
