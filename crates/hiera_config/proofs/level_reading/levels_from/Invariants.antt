use Rattle.std.proofs.Common.{◌≡◌, drop}
use Rattle.serde_json.specs.View.{items_view}
use Rattle.hiera_config.specs.Config.{levels_from}
use Rattle.hiera_config.proofs.ReadLists.{so_far}
use Rattle.hiera_config.proofs.level_reading.levels_from.Given as goal

abbrev pub invariant-loop-item : goal.invariant-loop-item
invariant-loop-item l =
    so_far l.levels.items (levels_from l.folder (items_view (drop l.item-index l.items)))
    ≡ levels_from l.folder (items_view l.items)
