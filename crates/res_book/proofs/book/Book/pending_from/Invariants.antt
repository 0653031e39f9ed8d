-- No pending one was passed.
use Rattle.std.proofs.Common.{◌≡◌}
use Rattle.res_book.specs.Rows.{pending_from}
use Rattle.res_book.proofs.book.Book.pending_from.Given as goal

abbrev pub invariant-loop-number : goal.invariant-loop-number
invariant-loop-number l = pending_from l.self l.from ≡ pending_from l.self l.number
