-- What the rest from the index on tells is what all of it tells.
use Rattle.std.proofs.Common.{◌≡◌, drop}
use Rattle.std.specs.List.{list_all}
use Rattle.pp_values.specs.Views.{views}
use Rattle.expr_eval.specs.Truth.{is_true}
use Rattle.expr_eval.proofs.gathering.all_true.Given as goal

abbrev pub invariant-loop-value : goal.invariant-loop-value
invariant-loop-value l = list_all is_true (views l.results)
    ≡ list_all is_true (views (drop l.value-index l.results))
