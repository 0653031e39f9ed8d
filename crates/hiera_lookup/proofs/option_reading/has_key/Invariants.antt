-- What the rest from the index on tells is what all of it tells.
use Rattle.std.proofs.Common.{◌≡◌, drop}
use Rattle.std.specs.List.{list_any}
use Rattle.pp_values.specs.Keys.{same_key}
use Rattle.pp_values.specs.Views.{view, pair_views}
use Rattle.hiera_lookup.specs.Filled.{answer_to, as_key, filled}
use Rattle.hiera_lookup.specs.World.{seen}
use Rattle.hiera_lookup.proofs.option_reading.has_key.Given as goal

abbrev pub invariant-loop-other : goal.invariant-loop-other
invariant-loop-other l =
    list_any (λ p. same_key (view l.key) (as_key (filled ((seen l.world).reads) (answer_to l.answers) p.0)))
    (pair_views l.pairs)
    ≡ list_any (λ p. same_key (view l.key) (as_key (filled ((seen l.world).reads) (answer_to l.answers) p.0)))
    (pair_views (drop l.other-index l.pairs))
