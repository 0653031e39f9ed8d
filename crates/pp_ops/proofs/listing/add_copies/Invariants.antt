-- What the rest from the index on adds to what is there, or tells, is what all of it does.
use Rattle.std.proofs.Common.{◌≡◌, ◌++◌, drop}
use Rattle.pp_values.specs.Views.{views}
use Rattle.pp_ops.proofs.listing.add_copies.Given as goal

abbrev pub invariant-loop-item : goal.invariant-loop-item
invariant-loop-item l = l.out ++ views (drop l.item-index l.items) ≡ l.initial.out ++ views l.items
