-- What is kept, and what the rest adds, is what all of it gives.
use Rattle.std.proofs.Common.{◌≡◌, ◌++◌, drop}
use Rattle.pp_values.specs.Views.{views, pair_views}
use Rattle.expr_eval.specs.Gathering.{kept}
use Rattle.expr_eval.proofs.gathering.add_kept.Given as goal

abbrev pub invariant-loop-key : goal.invariant-loop-key
invariant-loop-key l =
    pair_views l.out.items ++ kept (pair_views (drop l.key-index l.pairs)) (views l.rest)
    ≡ pair_views l.initial.out.items ++ kept (pair_views l.pairs) (views l.results)
