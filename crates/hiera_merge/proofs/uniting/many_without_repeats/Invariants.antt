-- What the rest from the index on leaves, after what is kept, is what all of it leaves; what is kept was seen.
use Rattle.std.proofs.Common.{◌≡◌, [], drop}
use Rattle.std.specs.List.{fold}
use Rattle.pp_funcs.specs.Lists.{behind, with_new}
use Rattle.pp_funcs.specs.Seen.{Holds}
use Rattle.hiera_merge.proofs.uniting.many_without_repeats.Given as goal

abbrev pub invariant-loop-member : goal.invariant-loop-member
invariant-loop-member l =
    (fold with_new l.kept (behind (drop l.member-index l.members)) ≡ fold with_new [] (behind l.members)) × Holds l.seen l.kept
