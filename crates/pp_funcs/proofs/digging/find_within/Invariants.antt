-- The rest of the keys from the index on leads from the value to what all of them lead to.
use Rattle.std.proofs.Common.{◌≡◌, drop}
use Rattle.pp_values.specs.Answers.{in_turn}
use Rattle.pp_values.specs.Views.{view, views}
use Rattle.pp_funcs.specs.Digging.{further}
use Rattle.pp_funcs.proofs.digging.find_within.Given as goal

abbrev pub invariant-loop-key : goal.invariant-loop-key
invariant-loop-key l =
    in_turn further (view l.value) (views (drop l.key-index l.keys)) ≡ in_turn further (view l.whole) (views l.keys)
