-- What is kept, and what the rest adds, is what all of it gives.
use Rattle.std.proofs.Common.{◌≡◌, ◌++◌, drop}
use Rattle.pp_values.specs.Views.{views}
use Rattle.expr_eval.specs.Gathering.{kept}
use Rattle.expr_eval.proofs.gathering.kept_members.Given as goal

abbrev pub invariant-loop-item : goal.invariant-loop-item
invariant-loop-item l = l.kept ++ kept (views (drop l.item-index l.items)) (views l.rest)
    ≡ kept (views l.items) (views l.results)
