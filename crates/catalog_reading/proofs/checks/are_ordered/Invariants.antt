use Rattle.std.proofs.Common.{◌≡◌, length}
use Rattle.res_core.specs.Catalogs.{edge_cmp, is_ordered}
use Rattle.catalog_reading.proofs.checks.are_ordered.Given as goal

abbrev pub invariant-loop-left : goal.invariant-loop-left
invariant-loop-left l = is_ordered edge_cmp l.left ≡ is_ordered edge_cmp l.edges

abbrev pub decreases-loop-left : goal.decreases-loop-left
decreases-loop-left l = length l.left
