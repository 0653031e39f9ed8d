-- The rows so far, and then those of the definitions that are left, of which the last comes next.
use Rattle.std.proofs.Common.{◌≡◌, ◌++◌, length, reverse}
use Rattle.pp_tree.specs.Tables.{all_rows}
use Rattle.pp_tree.proofs.rows.all_rows.Given as goal

abbrev pub invariant-loop-definition : goal.invariant-loop-definition
invariant-loop-definition l = l.rows.items ++ all_rows (reverse l.left) ≡ all_rows l.fn.definitions

abbrev pub decreases-loop-definition : goal.decreases-loop-definition
decreases-loop-definition l = length l.left
