-- What the rest from the index on adds to what is there is what all of it adds.
use Rattle.std.proofs.Common.{◌≡◌, ◌++◌, drop, map}
use Rattle.pp_values.specs.Views.{pair_views}
use Rattle.pp_funcs.proofs.listing.keys_of.Given as goal

abbrev pub invariant-loop-key : goal.invariant-loop-key
invariant-loop-key l =
    l.out ++ map (λ p. p.0) (pair_views (drop l.key-index l.pairs)) ≡ map (λ p. p.0) (pair_views l.pairs)
