use Rattle.std.proofs.Common.{sym, ◌∙◌}
use Rattle.res_book.specs.Rows.{reference_of}
use Rattle.res_book.proofs.Rows.{undeclared, declared_at, number_of-below}
use Rattle.res_book.proofs.book.Book.earlier.Goals as goal

pub row-requires : goal.row-requires
row-requires c =
    number_of-below (reference_of c.args.item.now) c.args.self.now c.in-Some.number (sym c.in-Some.ensures)

pub returns-in-Some : goal.returns-in-Some
returns-in-Some c =
    sym (declared_at (reference_of c.args.item.now) c.args.self.now c.in-Some.number (sym c.in-Some.ensures)
    ∙ c.row.ensures)

pub returns-in-None : goal.returns-in-None
returns-in-None c = sym (undeclared (reference_of c.args.item.now) c.args.self.now (sym c.in-None.ensures))
