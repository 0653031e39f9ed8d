-- What the rest from the index on adds to what is there, or tells, is what all of it does.
use Rattle.std.proofs.Common.{◌≡◌, ◌++◌, drop}
use Rattle.pp_values.specs.Views.{pair_views}
use Rattle.pp_ops.specs.Indexes.{told, added_by}
use Rattle.pp_ops.proofs.hashing.add_new_by.Given as goal

abbrev pub invariant-loop-key : goal.invariant-loop-key
invariant-loop-key l =
    pair_views l.out.items ++ added_by (told l.had) (pair_views (drop l.key-index l.pairs))
    ≡ pair_views l.initial.out.items ++ added_by (told l.had) (pair_views l.pairs)
