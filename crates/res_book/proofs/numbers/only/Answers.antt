use Rattle.res_book.proofs.Tables.{one_title}
use Rattle.res_book.proofs.numbers.only.Goals as goal

pub returns : goal.returns
returns c =
    one_title c.new-titles.result c.insert.new.self c.in_ok-title.title c.args.title.now c.args.number
    c.in_ok-title.ensures c.new-titles.ensures.empty c.in_ok-insert.ensures.updates
