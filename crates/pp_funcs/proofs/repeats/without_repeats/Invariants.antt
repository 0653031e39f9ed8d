-- What the rest from the index on leaves, after what is kept, is what all of it leaves; what is kept was seen.
use Rattle.std.proofs.Common.{◌≡◌, [], drop}
use Rattle.std.specs.List.{fold}
use Rattle.pp_values.specs.Views.{views}
use Rattle.pp_funcs.specs.Lists.{with_new}
use Rattle.pp_funcs.specs.Seen.{Holds}
use Rattle.pp_funcs.proofs.repeats.without_repeats.Given as goal

abbrev pub invariant-loop-item : goal.invariant-loop-item
invariant-loop-item l =
    (fold with_new l.kept (views (drop l.item-index l.items)) ≡ fold with_new [] (views l.items)) × Holds l.seen l.kept
