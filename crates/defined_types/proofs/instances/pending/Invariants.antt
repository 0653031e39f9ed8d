-- Those found, and those behind the last one.
use Rattle.std.proofs.Common.{◌≡◌, ◌++◌, ◌-◌, length}
use Rattle.res_book.specs.Rows.{next_number}
use Rattle.defined_types.specs.Rounds.{pending}
use Rattle.defined_types.proofs.Pending.{behind}
use Rattle.defined_types.proofs.instances.pending.Given as goal

abbrev pub invariant-loop-number : goal.invariant-loop-number
invariant-loop-number l = pending l.book ≡ l.found.items ++ behind l.book (next_number l.after)

abbrev pub decreases-loop-number : goal.decreases-loop-number
decreases-loop-number l = length l.book - next_number l.after
