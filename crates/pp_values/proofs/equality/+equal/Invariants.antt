-- The measures: the size of the first value. The loops: what holds is told by what is left from the index on.
use Rattle.std.proofs.Common.{◌≡◌, drop}
use Rattle.std.specs.Cmp.Lexicographic.{pointwise}
use Rattle.pp_values.specs.Datum.{entries_of}
use Rattle.pp_values.specs.Sizes.{datum_size, data_size, pairs_size}
use Rattle.pp_values.specs.Equal.{equal, is_within}
use Rattle.pp_values.specs.Views.{view, views, pair_views}
use Rattle.pp_values.proofs.equality.+equal.Given as goal

abbrev pub decreases-equal : goal.decreases-equal
decreases-equal l = datum_size (view l.a.now)

abbrev pub decreases-equal_items : goal.decreases-equal_items
decreases-equal_items l = data_size (views l.a.now)

abbrev pub decreases-is_within : goal.decreases-is_within
decreases-is_within l = pairs_size (pair_views l.a.now)

abbrev pub invariant-equal_items-loop-i : goal.invariant-equal_items-loop-i
invariant-equal_items-loop-i l = pointwise equal (views l.a) (views l.b) ≡ pointwise equal (views (drop l.i l.a)) (views (drop l.i l.b))

abbrev pub invariant-is_within-loop-place : goal.invariant-is_within-loop-place
invariant-is_within-loop-place l =
    is_within (entries_of (pair_views l.a)) l.b ≡ is_within (entries_of (pair_views (drop l.place l.a))) l.b
