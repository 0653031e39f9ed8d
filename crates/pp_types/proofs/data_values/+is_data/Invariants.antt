-- The measures: the size of the value. The loops: what holds is told by what is left from the index on.
use Rattle.std.proofs.Common.{◌≡◌, drop}
use Rattle.pp_values.specs.Datum.{data_of, entries_of}
use Rattle.pp_values.specs.Sizes.{datum_size, data_size, pairs_size}
use Rattle.pp_values.specs.Views.{view, views, pair_views}
use Rattle.pp_types.specs.Accepts.{are_data, are_data_by_texts}
use Rattle.pp_types.proofs.data_values.+is_data.Given as goal

abbrev pub decreases-is_data : goal.decreases-is_data
decreases-is_data l = datum_size (view l.value.now)

abbrev pub decreases-are_data : goal.decreases-are_data
decreases-are_data l = data_size (views l.items.now)

abbrev pub decreases-are_data_by_texts : goal.decreases-are_data_by_texts
decreases-are_data_by_texts l = pairs_size (pair_views l.pairs.now)

abbrev pub invariant-are_data-loop-item : goal.invariant-are_data-loop-item
invariant-are_data-loop-item l = are_data (data_of (views l.items))
    ≡ are_data (data_of (views (drop l.item-index l.items)))

abbrev pub invariant-are_data_by_texts-loop-key : goal.invariant-are_data_by_texts-loop-key
invariant-are_data_by_texts-loop-key l =
    are_data_by_texts (entries_of (pair_views l.pairs))
    ≡ are_data_by_texts (entries_of (pair_views (drop l.key-index l.pairs)))
