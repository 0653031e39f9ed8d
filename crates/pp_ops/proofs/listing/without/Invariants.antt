-- What the rest from the index on adds to what is there, or tells, is what all of it does.
use Rattle.std.proofs.Common.{◌≡◌, ◌++◌, drop}
use Rattle.pp_values.specs.Views.{view, views}
use Rattle.pp_ops.specs.Lists.{taken_off, without}
use Rattle.pp_ops.proofs.listing.without.Given as goal

abbrev pub invariant-loop-item : goal.invariant-loop-item
invariant-loop-item l = l.kept ++ without (taken_off (view l.gone)) (views (drop l.item-index l.items))
    ≡ without (taken_off (view l.gone)) (views l.items)
