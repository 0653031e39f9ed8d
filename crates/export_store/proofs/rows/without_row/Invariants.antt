-- The rows copied so far, and then those of other keys from the index on.
use Rattle.std.proofs.Common.{◌≡◌, ◌++◌, drop}
use Rattle.export_store.specs.Rows.{entries_of, others}
use Rattle.export_store.proofs.rows.without_row.Given as goal

abbrev pub invariant-loop-row : goal.invariant-loop-row
invariant-loop-row g l = entries_of l.items.items ++ others l.key (entries_of (drop l.row-index l.rows)) ≡ others l.key (entries_of l.rows)
