-- The measures: the size of what is copied. The loops: what was copied so far is what stands before the index.
use Rattle.std.proofs.Common.{◌≡◌, take}
use Rattle.pp_values.specs.Sizes.{datum_size, data_size, pairs_size}
use Rattle.pp_values.specs.Views.{view, views, pair_views}
use Rattle.pp_values.proofs.copying.+copy.Given as goal

abbrev pub decreases-copy : goal.decreases-copy
decreases-copy l = datum_size (view l.value.now)

abbrev pub decreases-copy_values : goal.decreases-copy_values
decreases-copy_values l = data_size l.values.now

abbrev pub decreases-copy_pairs : goal.decreases-copy_pairs
decreases-copy_pairs l = pairs_size l.pairs.now

abbrev pub invariant-copy_values-loop-item : goal.invariant-copy_values-loop-item
invariant-copy_values-loop-item l = views l.items.items ≡ views (take l.item-index l.item-items)

abbrev pub invariant-copy_pairs-loop-key : goal.invariant-copy_pairs-loop-key
invariant-copy_pairs-loop-key l = pair_views l.items.items ≡ pair_views (take l.key-index l.key-items)
