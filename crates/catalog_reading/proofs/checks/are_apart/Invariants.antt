-- The names of those that are left, with those that were seen, tell what all references do.
use Rattle.std.proofs.Common.{◌≡◌, length, map}
use Rattle.res_core.specs.Catalogs.{are_apart, reference_of}
use Rattle.catalog_reading.specs.CatalogReading.{name_of}
use Rattle.catalog_reading.proofs.NamesApart.{are_new}
use Rattle.catalog_reading.proofs.checks.are_apart.Given as goal

abbrev pub invariant-loop-left : goal.invariant-loop-left
invariant-loop-left l = are_new l.names.keys (map name_of l.left) ≡ are_apart (map reference_of l.resources)

abbrev pub decreases-loop-left : goal.decreases-loop-left
decreases-loop-left l = length l.left
