-- The measure: the size of the value. The loops: what is there, and what the rest asks, is what all of it asks.
use Rattle.std.proofs.Common.{◌≡◌, ◌++◌, drop}
use Rattle.pp_values.specs.Datum.{data_of, entries_of}
use Rattle.pp_values.specs.Sizes.{datum_size, data_size, pairs_size}
use Rattle.pp_values.specs.Views.{view, views, pair_views}
use Rattle.hiera_lookup.specs.Asks.{list_asks, pair_asks}
use Rattle.hiera_lookup.proofs.asking.+asks.Given as goal

abbrev pub decreases-add_asks : goal.decreases-add_asks
decreases-add_asks l = datum_size (view l.value.now)

abbrev pub decreases-add_list : goal.decreases-add_list
decreases-add_list l = data_size (views l.items.now)

abbrev pub decreases-add_pairs : goal.decreases-add_pairs
decreases-add_pairs l = pairs_size (pair_views l.pairs.now)

abbrev pub invariant-add_list-loop-item : goal.invariant-add_list-loop-item
invariant-add_list-loop-item l =
    l.asked.items ++ list_asks (data_of (views (drop l.item-index l.items)))
    ≡ l.initial.asked.items ++ list_asks (data_of (views l.items))

abbrev pub invariant-add_pairs-loop-key : goal.invariant-add_pairs-loop-key
invariant-add_pairs-loop-key l =
    l.asked.items ++ pair_asks (entries_of (pair_views (drop l.key-index l.pairs)))
    ≡ l.initial.asked.items ++ pair_asks (entries_of (pair_views l.pairs))
