-- What the rest from the index on adds decides.
use Rattle.std.proofs.Common.{◌≡◌, [], drop}
use Rattle.eval_calls.specs.LookUps.{keys_from}
use Rattle.eval_calls.proofs.requests.texts_in.Given as goal
use Rattle.pp_values.specs.Views.{views}

abbrev pub invariant-loop-value : goal.invariant-loop-value
invariant-loop-value l =
    keys_from [] (views l.values) ≡ keys_from l.keys (views (drop l.value-index l.values))
