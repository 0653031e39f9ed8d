-- What was taken, before what is left, is all.
use Rattle.std.proofs.Common.{◌≡◌, ◌++◌, drop, option_map}
use Rattle.pp_values.specs.Views.{views}
use Rattle.pp_types.specs.Arguments.{all_types}
use Rattle.pp_types.proofs.arguments.types.Given as goal

abbrev pub invariant-loop-value : goal.invariant-loop-value
invariant-loop-value l = all_types (views l.args) ≡ option_map
    (λ r. l.types ++ r) (all_types (views (drop l.value-index l.args)))
