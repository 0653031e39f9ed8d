-- What the rest from the index on tells is what all of it tells.
use Rattle.std.proofs.Common.{◌≡◌, drop}
use Rattle.std.specs.List.{list_any}
use Rattle.pp_values.specs.Views.{views}
use Rattle.hiera_merge.specs.Merges.{is_list}
use Rattle.hiera_merge.proofs.deepening.has_list.Given as goal

abbrev pub invariant-loop-value : goal.invariant-loop-value
invariant-loop-value l = list_any is_list (views (drop l.value-index l.values)) ≡ list_any is_list (views l.values)
