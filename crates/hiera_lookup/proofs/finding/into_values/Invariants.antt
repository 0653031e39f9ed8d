-- What is there, and the rest, is all.
use Rattle.std.proofs.Common.{◌≡◌, ◌++◌, map}
use Rattle.std.specs.Vec.Iter.{into_iter_items}
use Rattle.pp_values.specs.Views.{view, views}
use Rattle.hiera_config.specs.declared.searching.Source.{Source}
use Rattle.hiera_lookup.proofs.finding.into_values.Given as goal

abbrev pub invariant-loop-source : goal.invariant-loop-source
invariant-loop-source l =
    views l.values.items ++ map (λ (s : Source). view s.value) (into_iter_items l.source-iterator)
    ≡ map (λ (s : Source). view s.value) l.fn.sources.items
