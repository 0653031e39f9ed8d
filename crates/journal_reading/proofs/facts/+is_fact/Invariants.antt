-- The measures: the size of the value. The loops: what holds is told by what is left.
use Rattle.std.proofs.Common.{◌≡◌, ◌≤◌, drop, length}
use Rattle.pp_values.specs.Datum.{data_of, entries_of}
use Rattle.pp_values.specs.Facts.{are_members, are_pairs}
use Rattle.pp_values.specs.Sizes.{datum_size, data_size, pairs_size}
use Rattle.pp_values.specs.Views.{view, views, pair_views}
use Rattle.journal_reading.proofs.facts.+is_fact.Given as goal

abbrev pub decreases-is_fact : goal.decreases-is_fact
decreases-is_fact l = datum_size (view l.value.now)

abbrev pub decreases-are_members : goal.decreases-are_members
decreases-are_members l = data_size (views l.items.now)

abbrev pub decreases-are_pairs : goal.decreases-are_pairs
decreases-are_pairs l = pairs_size (pair_views l.pairs.now)

abbrev pub invariant-are_members-loop-item : goal.invariant-are_members-loop-item
invariant-are_members-loop-item l = are_members (data_of (views l.items)) ≡ are_members (data_of (views (drop l.item-index l.items)))

abbrev pub invariant-are_pairs-loop-left : goal.invariant-are_pairs-loop-left
invariant-are_pairs-loop-left l =
    (are_pairs (entries_of (pair_views l.left)) ≡ are_pairs (entries_of (pair_views l.pairs)))
    × (pairs_size (pair_views l.left) ≤ pairs_size (pair_views l.pairs))

abbrev pub decreases-are_pairs-loop-left : goal.decreases-are_pairs-loop-left
decreases-are_pairs-loop-left l = length l.left
