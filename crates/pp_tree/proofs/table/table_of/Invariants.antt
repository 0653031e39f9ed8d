-- The rows that are left, after those in the table, give what all rows give.
use Rattle.std.proofs.Common.{◌≡◌}
use Rattle.std.specs.Vec.Iter.{into_iter_items}
use Rattle.pp_tree.specs.Tables.{table_from, table_of}
use Rattle.pp_tree.proofs.table.table_of.Given as goal

abbrev pub invariant-loop-row : goal.invariant-loop-row
invariant-loop-row l = table_from l.table (into_iter_items l.row-iterator) ≡ table_of l.fn.definitions
