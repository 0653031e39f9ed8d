-- What the rest leaves, after what is kept, is what all of it leaves.
use Rattle.std.proofs.Common.{◌≡◌, []}
use Rattle.std.specs.List.{fold}
use Rattle.std.specs.Vec.Iter.{into_iter_items}
use Rattle.pp_funcs.specs.Lists.{with_new}
use Rattle.pp_values.specs.Views.{views}
use Rattle.hiera_merge.proofs.uniting.few_once.Given as goal

abbrev pub invariant-loop-member : goal.invariant-loop-member
invariant-loop-member l =
    fold with_new (views l.kept.items) (views (into_iter_items l.member-iterator)) ≡ fold with_new [] (views l.fn.members.items)
