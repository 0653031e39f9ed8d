-- The measure: the size of the value. The loop: what is there, and what the rest adds, is what all of it adds.
use Rattle.std.proofs.Common.{◌≡◌, ◌++◌, drop}
use Rattle.pp_funcs.specs.Lists.{behind, flat_members}
use Rattle.pp_values.specs.Datum.{data_of}
use Rattle.pp_values.specs.Sizes.{datum_size, data_size}
use Rattle.pp_values.specs.Views.{view, views}
use Rattle.hiera_merge.proofs.uniting.+flat.Given as goal

abbrev pub decreases-add_flat : goal.decreases-add_flat
decreases-add_flat l = datum_size (view l.value.now)

abbrev pub decreases-add_flats : goal.decreases-add_flats
decreases-add_flats l = data_size (views l.items.now)

abbrev pub invariant-add_flats-loop-item : goal.invariant-add_flats-loop-item
invariant-add_flats-loop-item l =
    behind l.members.items ++ flat_members (data_of (views (drop l.item-index l.items)))
    ≡ behind l.initial.members.items ++ flat_members (data_of (views l.items))
