use Rattle.std.proofs.Common.{rules}
use Rattle.res_book.proofs.Tables.{changed}
use Rattle.res_book.proofs.numbers.put_back.Goals as goal

pub returns-in-Some : goal.returns-in-Some
returns-in-Some c =
    changed c.args.titles.now (c.get_mut.follows.lender c.args.number) c.args.title.now c.args.number
    ((c.get_mut.follows.holds c.args.number).3 (search rules))
