use Rattle.std.proofs.Common.{◌≡◌, length}
use Rattle.catalog_finish.specs.Layouts.{indexes_at, with_numbers, rising}
use Rattle.catalog_finish.proofs.layout.rising.Given as goal

abbrev pub invariant-loop-left : goal.invariant-loop-left
invariant-loop-left l =
    with_numbers l.found.keys (indexes_at l.indexes l.left) ≡ rising (indexes_at l.indexes l.numbers)

abbrev pub decreases-loop-left : goal.decreases-loop-left
decreases-loop-left l = length l.left
