-- What the rest from the index on adds to what is there is what all of it adds.
use Rattle.std.proofs.Common.{◌≡◌, ◌++◌, drop}
use Rattle.pp_funcs.specs.Lists.{behind}
use Rattle.eval_classes.proofs.flattening.copy_members.Given as goal

abbrev pub invariant-loop-item : goal.invariant-loop-item
invariant-loop-item l = l.out ++ behind (drop l.item-index l.items) ≡ behind l.items
