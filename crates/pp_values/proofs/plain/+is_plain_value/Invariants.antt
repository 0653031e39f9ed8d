-- The measures: the size of the value. The loops: what holds is told by what is left from the index on.
use Rattle.std.proofs.Common.{◌≡◌, drop}
use Rattle.pp_values.specs.Datum.{data_of, entries_of}
use Rattle.pp_values.specs.Sizes.{datum_size, data_size, pairs_size}
use Rattle.pp_values.specs.Views.{view, views, pair_views}
use Rattle.pp_values.specs.Plain.{are_plain_values, are_plain_pairs}
use Rattle.pp_values.proofs.plain.+is_plain_value.Given as goal

abbrev pub decreases-is_plain_value : goal.decreases-is_plain_value
decreases-is_plain_value l = datum_size (view l.value.now)

abbrev pub decreases-are_plain_values : goal.decreases-are_plain_values
decreases-are_plain_values l = data_size (views l.items.now)

abbrev pub decreases-are_plain_pairs : goal.decreases-are_plain_pairs
decreases-are_plain_pairs l = pairs_size (pair_views l.pairs.now)

abbrev pub invariant-are_plain_values-loop-item : goal.invariant-are_plain_values-loop-item
invariant-are_plain_values-loop-item l = are_plain_values (data_of (views l.items)) ≡ are_plain_values (data_of (views (drop l.item-index l.items)))

abbrev pub invariant-are_plain_pairs-loop-key : goal.invariant-are_plain_pairs-loop-key
invariant-are_plain_pairs-loop-key l =
    are_plain_pairs (entries_of (pair_views l.pairs)) ≡ are_plain_pairs (entries_of (pair_views (drop l.key-index l.pairs)))
