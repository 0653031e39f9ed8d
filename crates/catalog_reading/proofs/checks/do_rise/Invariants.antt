use Rattle.std.proofs.Common.{◌≡◌, length}
use Rattle.std.specs.Ordering.{nat_cmp}
use Rattle.res_core.specs.Catalogs.{is_ordered}
use Rattle.catalog_reading.proofs.checks.do_rise.Given as goal

abbrev pub invariant-loop-left : goal.invariant-loop-left
invariant-loop-left l = is_ordered nat_cmp l.left ≡ is_ordered nat_cmp l.indexes

abbrev pub decreases-loop-left : goal.decreases-loop-left
decreases-loop-left l = length l.left
