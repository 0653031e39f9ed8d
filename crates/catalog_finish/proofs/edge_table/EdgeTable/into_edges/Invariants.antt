use Rattle.std.proofs.Common.{◌≡◌, ◌++◌}
use Rattle.catalog_finish.specs.EdgeTables.{edges_of}
use Rattle.catalog_finish.proofs.edge_table.EdgeTable.into_edges.Given as goal

abbrev pub invariant-loop-from : goal.invariant-loop-from
invariant-loop-from l = l.items.items ++ edges_of l.count l.from-iterator ≡ edges_of l.count l.fn.self
