use Rattle.std.proofs.Common.{◌≡◌, drop}
use Rattle.serde_json.specs.View.{items_view}
use Rattle.hiera_config.specs.Config.{texts_from}
use Rattle.hiera_config.proofs.ReadLists.{so_far}
use Rattle.hiera_config.proofs.level_reading.templates_from.Given as goal

abbrev pub invariant-loop-item : goal.invariant-loop-item
invariant-loop-item l =
    so_far l.templates (texts_from (items_view (drop l.item-index l.items))) ≡ texts_from (items_view l.items)
