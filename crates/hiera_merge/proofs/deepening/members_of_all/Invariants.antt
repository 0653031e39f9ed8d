-- What is there, and what the rest has, is what all have.
use Rattle.std.proofs.Common.{◌≡◌, ◌++◌}
use Rattle.std.specs.Vec.Iter.{into_iter_items}
use Rattle.pp_values.specs.Views.{views}
use Rattle.hiera_merge.specs.DeepSteps.{members_of_all}
use Rattle.hiera_merge.proofs.deepening.members_of_all.Given as goal

abbrev pub invariant-loop-value : goal.invariant-loop-value
invariant-loop-value l =
    views l.members.items ++ members_of_all (views (into_iter_items l.value-iterator))
    ≡ members_of_all (views l.fn.values.items)
