use Rattle.std.proofs.Common.{◌≡◌, drop}
use Rattle.catalog_finish.specs.EdgeTables.{edges_from}
use Rattle.catalog_finish.proofs.edge_table.EdgeTable.put_from.Given as goal

abbrev pub invariant-loop-to : goal.invariant-loop-to
invariant-loop-to l =
    edges_from l.self l.from (drop l.to-index l.right) l.signal ≡ edges_from l.initial.self l.from l.right l.signal
