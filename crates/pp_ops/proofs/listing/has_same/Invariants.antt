-- What the rest from the index on adds to what is there, or tells, is what all of it does.
use Rattle.std.proofs.Common.{◌≡◌, drop}
use Rattle.std.specs.List.{list_any}
use Rattle.pp_values.specs.Views.{view, views}
use Rattle.pp_ops.specs.Same.{same}
use Rattle.pp_ops.proofs.listing.has_same.Given as goal

abbrev pub invariant-loop-item : goal.invariant-loop-item
invariant-loop-item l = list_any (same (view l.value)) (views l.items)
    ≡ list_any (same (view l.value)) (views (drop l.item-index l.items))
