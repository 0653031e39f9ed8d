-- What the rest from the index on adds to what is there, or tells, is what all of it does.
use Rattle.std.proofs.Common.{◌≡◌, drop}
use Rattle.std.specs.List.{list_any}
use Rattle.pp_values.specs.Views.{view, views}
use Rattle.pp_values.specs.Keys.{same_key}
use Rattle.pp_ops.proofs.hashing.is_listed.Given as goal

abbrev pub invariant-loop-item : goal.invariant-loop-item
invariant-loop-item l = list_any (same_key (view l.key)) (views l.items)
    ≡ list_any (same_key (view l.key)) (views (drop l.item-index l.items))
