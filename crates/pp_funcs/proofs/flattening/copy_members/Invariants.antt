-- What the rest from the index on adds to what is there is what all of it adds.
use Rattle.std.proofs.Common.{◌≡◌, ◌++◌, drop, map}
use Rattle.pp_values.specs.Views.{view}
use Rattle.pp_funcs.proofs.flattening.copy_members.Given as goal

abbrev pub invariant-loop-item : goal.invariant-loop-item
invariant-loop-item l = l.out ++ map (λ v. view v.now) (drop l.item-index l.items) ≡ map (λ v. view v.now) l.items
