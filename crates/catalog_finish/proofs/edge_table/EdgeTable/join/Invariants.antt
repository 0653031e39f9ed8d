use Rattle.std.proofs.Common.{◌≡◌, drop}
use Rattle.catalog_finish.specs.EdgeTables.{joined}
use Rattle.catalog_finish.proofs.edge_table.EdgeTable.join.Given as goal

abbrev pub invariant-loop-from : goal.invariant-loop-from
invariant-loop-from l =
    joined l.self (drop l.from-index l.left) l.right l.signal ≡ joined l.initial.self l.left l.right l.signal
