-- The rest from the index on decides between what was chosen so far and itself.
use Rattle.std.proofs.Common.{◌≡◌, drop}
use Rattle.std.specs.Int.{int_max}
use Rattle.pp_values.specs.Views.{views}
use Rattle.pp_funcs.specs.Numbers.{chosen}
use Rattle.pp_funcs.proofs.numbers.greatest_of.Given as goal

abbrev pub invariant-loop-value : goal.invariant-loop-value
invariant-loop-value l =
    chosen int_max l.chosen (views (drop l.value-index l.rest))
    ≡ chosen int_max l.initial.chosen (views l.rest)
