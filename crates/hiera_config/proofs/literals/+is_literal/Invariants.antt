-- The measures: the size of the value. The loops: what holds is told by what is left from the index on.
use Rattle.std.proofs.Common.{◌≡◌, drop}
use Rattle.pp_values.specs.Datum.{data_of, entries_of}
use Rattle.pp_values.specs.Sizes.{datum_size, data_size, pairs_size}
use Rattle.pp_values.specs.Views.{view, views, pair_views}
use Rattle.hiera_config.specs.Literals.{are_literal, are_literal_pairs}
use Rattle.hiera_config.proofs.literals.+is_literal.Given as goal

abbrev pub decreases-is_literal : goal.decreases-is_literal
decreases-is_literal l = datum_size (view l.value.now)

abbrev pub decreases-are_literal : goal.decreases-are_literal
decreases-are_literal l = data_size (views l.items.now)

abbrev pub decreases-are_literal_pairs : goal.decreases-are_literal_pairs
decreases-are_literal_pairs l = pairs_size (pair_views l.pairs.now)

abbrev pub invariant-are_literal-loop-item : goal.invariant-are_literal-loop-item
invariant-are_literal-loop-item l = are_literal (data_of (views l.items)) ≡ are_literal (data_of (views (drop l.item-index l.items)))

abbrev pub invariant-are_literal_pairs-loop-key : goal.invariant-are_literal_pairs-loop-key
invariant-are_literal_pairs-loop-key l =
    are_literal_pairs (entries_of (pair_views l.pairs)) ≡ are_literal_pairs (entries_of (pair_views (drop l.key-index l.pairs)))
