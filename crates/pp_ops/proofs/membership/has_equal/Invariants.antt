-- What the rest from the index on adds to what is there, or tells, is what all of it does.
use Rattle.std.proofs.Common.{◌≡◌, drop}
use Rattle.std.specs.List.{list_any}
use Rattle.pp_values.specs.Views.{view, views}
use Rattle.pp_values.specs.Equal.{equal}
use Rattle.pp_ops.proofs.membership.has_equal.Given as goal

abbrev pub invariant-loop-item : goal.invariant-loop-item
invariant-loop-item l = list_any (equal (view l.value)) (views l.items)
    ≡ list_any (equal (view l.value)) (views (drop l.item-index l.items))
