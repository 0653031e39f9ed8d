-- What the rest from the index on adds to what is there is what all of it adds.
use Rattle.std.proofs.Common.{◌≡◌, ◌++◌, drop, map}
use Rattle.pp_ops.specs.Lists.{pair_list}
use Rattle.pp_values.specs.Views.{pair_views}
use Rattle.expr_eval.specs.Turns.{only}
use Rattle.expr_eval.proofs.turns.pairs_alone.Given as goal

abbrev pub invariant-loop-key : goal.invariant-loop-key
invariant-loop-key l =
    l.turns.items ++ map only (map pair_list (pair_views (drop l.key-index l.pairs)))
    ≡ map only (map pair_list (pair_views l.pairs))
