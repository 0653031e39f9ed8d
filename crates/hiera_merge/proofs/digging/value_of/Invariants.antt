-- What the rest from the index on has for the name is what all of it has.
use Rattle.std.proofs.Common.{◌≡◌, drop}
use Rattle.pp_values.specs.Datum.{text}
use Rattle.pp_values.specs.Keys.{value_at}
use Rattle.pp_values.specs.Views.{pair_views}
use Rattle.hiera_merge.proofs.digging.value_of.Given as goal

abbrev pub invariant-loop-key : goal.invariant-loop-key
invariant-loop-key l = value_at (text l.name) (pair_views l.pairs) ≡ value_at (text l.name) (pair_views (drop l.key-index l.pairs))
