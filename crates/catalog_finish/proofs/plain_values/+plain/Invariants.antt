-- The measures: the size of what is copied. The loops: what was copied so far is what stands before the index.
use Rattle.std.proofs.Common.{◌≡◌, take}
use Rattle.pp_values.specs.Sizes.{datum_size, data_size, pairs_size}
use Rattle.pp_values.specs.Views.{view, views, pair_views}
use Rattle.catalog_finish.specs.PlainForms.{plain_list, plain_pairs}
use Rattle.catalog_finish.proofs.plain_values.+plain.Given as goal

abbrev pub decreases-plain_copy : goal.decreases-plain_copy
decreases-plain_copy l = datum_size (view l.value.now)

abbrev pub decreases-plain_items : goal.decreases-plain_items
decreases-plain_items l = data_size l.values.now

abbrev pub decreases-plain_hash : goal.decreases-plain_hash
decreases-plain_hash l = pairs_size l.pairs.now

abbrev pub invariant-plain_items-loop-item : goal.invariant-plain_items-loop-item
invariant-plain_items-loop-item l = views l.items.items ≡ plain_list (views (take l.item-index l.item-items))

abbrev pub invariant-plain_hash-loop-key : goal.invariant-plain_hash-loop-key
invariant-plain_hash-loop-key l = pair_views l.items.items ≡ plain_pairs (pair_views (take l.key-index l.key-items))
