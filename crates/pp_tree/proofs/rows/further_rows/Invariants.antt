-- The rows so far are those of the names before the index.
use Rattle.std.proofs.Common.{◌≡◌, map, take}
use Rattle.pp_tree.specs.Tables.{further_row}
use Rattle.pp_tree.proofs.rows.further_rows.Given as goal

abbrev pub invariant-loop-name : goal.invariant-loop-name
invariant-loop-name l = l.rows.items ≡ map (further_row l.first) (take l.name-index l.names)
