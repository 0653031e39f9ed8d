-- What the rest from the index on adds to what is there is what all of it adds.
use Rattle.std.proofs.Common.{◌≡◌, ◌++◌, drop, map}
use Rattle.pp_values.specs.Views.{views}
use Rattle.expr_eval.specs.Turns.{only}
use Rattle.expr_eval.proofs.turns.members_alone.Given as goal

abbrev pub invariant-loop-item : goal.invariant-loop-item
invariant-loop-item l = l.turns.items ++ map only (views (drop l.item-index l.items)) ≡ map only (views l.items)
