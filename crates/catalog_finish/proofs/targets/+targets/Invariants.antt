-- The measures: the size of the value. The loop: what is left from the index on tells all.
use Rattle.std.proofs.Common.{◌≡◌, drop}
use Rattle.pp_values.specs.Datum.{data_of}
use Rattle.pp_values.specs.Sizes.{datum_size, data_size}
use Rattle.pp_values.specs.Views.{view, views}
use Rattle.catalog_finish.specs.Relating.{each_target}
use Rattle.catalog_finish.specs.Sources.{sources_of}
use Rattle.catalog_finish.proofs.targets.+targets.Given as goal

abbrev pub decreases-targets : goal.decreases-targets
decreases-targets l = datum_size (view l.value.now)

abbrev pub decreases-each_target : goal.decreases-each_target
decreases-each_target l = data_size (views l.items.now)

abbrev pub invariant-each_target-loop-item : goal.invariant-each_target-loop-item
invariant-each_target-loop-item l =
    each_target (sources_of l.tables) l.at l.name l.found (data_of (views (drop l.item-index l.items)))
    ≡ each_target (sources_of l.tables) l.at l.name l.fn.found (data_of (views l.items))
