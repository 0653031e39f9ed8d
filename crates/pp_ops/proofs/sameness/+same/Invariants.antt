-- The measures: the size of the first value. The loops: what holds is told by what is left from the index on.
use Rattle.std.proofs.Common.{◌≡◌, drop}
use Rattle.std.specs.Cmp.Lexicographic.{pointwise}
use Rattle.pp_values.specs.Sizes.{datum_size, data_size, pairs_size}
use Rattle.pp_values.specs.Views.{view, views, pair_views}
use Rattle.pp_ops.specs.Same.{same, same_pair}
use Rattle.pp_ops.proofs.sameness.+same.Given as goal

abbrev pub decreases-is_same : goal.decreases-is_same
decreases-is_same l = datum_size (view l.a.now)

abbrev pub decreases-are_same : goal.decreases-are_same
decreases-are_same l = data_size (views l.a.now)

abbrev pub decreases-have_same : goal.decreases-have_same
decreases-have_same l = pairs_size (pair_views l.a.now)

abbrev pub invariant-are_same-loop-i : goal.invariant-are_same-loop-i
invariant-are_same-loop-i l = pointwise same (views l.a) (views l.b)
    ≡ pointwise same (views (drop l.i l.a)) (views (drop l.i l.b))

abbrev pub invariant-have_same-loop-i : goal.invariant-have_same-loop-i
invariant-have_same-loop-i l =
    pointwise same_pair (pair_views l.a) (pair_views l.b)
    ≡ pointwise same_pair (pair_views (drop l.i l.a)) (pair_views (drop l.i l.b))
