-- What the rest from the index on tells is what all of it tells.
use Rattle.std.proofs.Common.{◌≡◌, drop}
use Rattle.std.specs.List.{list_any}
use Rattle.pp_ops.specs.Same.{same}
use Rattle.pp_values.specs.Views.{view, views}
use Rattle.hiera_merge.proofs.uniting.has_same.Given as goal

abbrev pub invariant-loop-other : goal.invariant-loop-other
invariant-loop-other l =
    list_any (same (view l.value)) (views (drop l.other-index l.values)) ≡ list_any (same (view l.value)) (views l.values)
