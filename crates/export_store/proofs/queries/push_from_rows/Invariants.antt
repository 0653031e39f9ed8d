-- The places so far, and then those in the rows from the index on.
use Rattle.std.proofs.Common.{◌≡◌, ◌++◌, drop, option_copied}
use Rattle.export_store.specs.ExportQueries.{found_in}
use Rattle.export_store.specs.Rows.{entries_of}
use Rattle.export_store.proofs.queries.push_from_rows.Given as goal

abbrev pub invariant-loop-row : goal.invariant-loop-row
invariant-loop-row l =
    l.places.items ++ found_in l.kind (option_copied l.tag) l.but_node (entries_of (drop l.row-index l.rows))
    ≡ l.fn.places.items ++ found_in l.kind (option_copied l.tag) l.but_node (entries_of l.rows)
