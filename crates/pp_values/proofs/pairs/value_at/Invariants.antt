-- The key is not among the pairs before the index.
use Rattle.std.proofs.Common.{◌≡◌, drop}
use Rattle.pp_values.specs.Keys.{value_at}
use Rattle.pp_values.specs.Views.{view, pair_views}
use Rattle.pp_values.proofs.pairs.value_at.Given as goal

abbrev pub invariant-loop-other : goal.invariant-loop-other
invariant-loop-other l = value_at (view l.key) (pair_views l.items) ≡ value_at (view l.key) (pair_views (drop l.other-index l.items))
