-- The measure: the size of the value. The loops: what is there are the members so far, and for pairs what is there
-- with the rest.
use Rattle.std.proofs.Common.{◌≡◌, [], drop, map, take}
use Rattle.pp_values.specs.Datum.{entries_of}
use Rattle.pp_values.specs.Sizes.{datum_size, data_size, pairs_size}
use Rattle.pp_values.specs.Views.{view, views, pair_views}
use Rattle.hiera_lookup.specs.Filled.{filled, answer_to, pairs_filled}
use Rattle.hiera_lookup.specs.World.{seen}
use Rattle.hiera_lookup.proofs.filling.+fill.Given as goal

abbrev pub decreases-fill : goal.decreases-fill
decreases-fill l = datum_size (view l.value.now)

abbrev pub decreases-fill_list : goal.decreases-fill_list
decreases-fill_list l = data_size (views l.items.now)

abbrev pub decreases-fill_pairs : goal.decreases-fill_pairs
decreases-fill_pairs l = pairs_size (pair_views l.pairs.now)

abbrev pub invariant-fill_list-loop-item : goal.invariant-fill_list-loop-item
invariant-fill_list-loop-item l =
    views l.filled.items ≡ map (filled ((seen l.world).reads) (answer_to l.answers))
    (views (take l.item-index l.items))

abbrev pub invariant-fill_pairs-loop-key : goal.invariant-fill_pairs-loop-key
invariant-fill_pairs-loop-key l =
    pairs_filled ((seen l.world).reads) (answer_to l.answers)
    (entries_of (pair_views (drop l.key-index l.pairs))) l.filled
    ≡ pairs_filled ((seen l.world).reads) (answer_to l.answers) (entries_of (pair_views l.pairs)) []
