-- What the rest from the index on tells is what all of it tells.
use Rattle.std.proofs.Common.{◌≡◌, drop}
use Rattle.std.specs.List.{list_all}
use Rattle.pp_values.specs.Views.{views}
use Rattle.hiera_merge.specs.Merges.{is_hash}
use Rattle.hiera_merge.proofs.merging.are_hashes.Given as goal

abbrev pub invariant-loop-value : goal.invariant-loop-value
invariant-loop-value l = list_all is_hash (views l.values) ≡ list_all is_hash (views (drop l.value-index l.values))
