-- The rest from the index on decides between what was chosen so far and itself.
use Rattle.std.proofs.Common.{◌≡◌, drop}
use Rattle.std.specs.Int.{int_min}
use Rattle.pp_values.specs.Views.{views}
use Rattle.pp_funcs.specs.Numbers.{chosen}
use Rattle.pp_funcs.proofs.numbers.least_of.Given as goal

abbrev pub invariant-loop-value : goal.invariant-loop-value
invariant-loop-value l =
    chosen int_min l.chosen (views (drop l.value-index l.rest))
    ≡ chosen int_min l.initial.chosen (views l.rest)
