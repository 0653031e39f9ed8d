-- The measure: the size of the list. The loop: what is there, and what the rest adds, is what all of it adds.
use Rattle.std.proofs.Common.{◌≡◌, ◌++◌, drop}
use Rattle.pp_funcs.specs.Lists.{behind, flat_members}
use Rattle.pp_values.specs.Datum.{data_of}
use Rattle.pp_values.specs.Sizes.{data_size}
use Rattle.pp_values.specs.Views.{views}
use Rattle.eval_classes.proofs.flattening.+add_flat.Given as goal

abbrev pub decreases-add_flat : goal.decreases-add_flat
decreases-add_flat l = data_size (views l.items.now)

abbrev pub invariant-loop-item : goal.invariant-loop-item
invariant-loop-item l =
    behind l.out.items ++ flat_members (data_of (views (drop l.item-index l.items)))
    ≡ behind l.initial.out.items ++ flat_members (data_of (views l.items))
