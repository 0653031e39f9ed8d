-- What the rest from the index on tells is what all of it tells.
use Rattle.std.proofs.Common.{◌≡◌, drop}
use Rattle.eval_calls.specs.LookUps.{are_options}
use Rattle.eval_calls.proofs.requests.are_options.Given as goal
use Rattle.pp_values.specs.Views.{pair_views}

abbrev pub invariant-loop-name : goal.invariant-loop-name
invariant-loop-name l = are_options (pair_views l.pairs) ≡ are_options (pair_views (drop l.name-index l.pairs))
