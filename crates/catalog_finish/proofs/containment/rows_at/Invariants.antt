use Rattle.std.proofs.Common.{◌≡◌, ◌++◌, map, drop}
use Rattle.catalog_finish.specs.Containing.{rows_at}
use Rattle.catalog_finish.proofs.containment.rows_at.Given as goal

abbrev pub invariant-loop-index : goal.invariant-loop-index
invariant-loop-index l =
    map (λ r. r.now) l.rows.items ++ rows_at l.book l.numbers (drop l.index-index l.indexes)
    ≡ rows_at l.book l.numbers l.indexes
