-- What the rest from the index on adds to what is there is what all of it adds.
use Rattle.std.proofs.Common.{◌≡◌, ◌++◌, drop, map}
use Rattle.pp_values.specs.Views.{pair_views}
use Rattle.pp_funcs.proofs.listing.values_of.Given as goal

abbrev pub invariant-loop-value : goal.invariant-loop-value
invariant-loop-value l =
    l.out ++ map (λ p. p.1) (pair_views (drop l.value-index l.pairs)) ≡ map (λ p. p.1) (pair_views l.pairs)
