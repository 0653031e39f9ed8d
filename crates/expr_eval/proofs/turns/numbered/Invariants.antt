-- What the rest from the place on adds to what is there is what all of it adds.
use Rattle.std.proofs.Common.{◌≡◌, ◌++◌, drop}
use Rattle.pp_values.specs.Views.{views}
use Rattle.expr_eval.specs.Turns.{numbered}
use Rattle.expr_eval.proofs.turns.numbered.Given as goal

abbrev pub invariant-loop-place : goal.invariant-loop-place
invariant-loop-place l =
    l.turns.items ++ numbered l.place (views (drop l.place l.items)) ≡ numbered 0 (views l.items)
