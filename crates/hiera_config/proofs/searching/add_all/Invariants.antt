-- What was found so far, with what is left, is what there is of all.
use Rattle.std.proofs.Common.{◌≡◌}
use Rattle.std.specs.Vec.Iter.{into_iter_items}
use Rattle.hiera_config.specs.Found.{source_views}
use Rattle.hiera_config.specs.Meant.{in_turn}
use Rattle.hiera_config.specs.Reached.{read_from}
use Rattle.hiera_config.specs.ReachedFiles.{reached_views, AreKeptAt}
use Rattle.hiera_config.proofs.searching.add_all.Given as goal

abbrev pub invariant-loop-one : goal.invariant-loop-one
invariant-loop-one l =
    (in_turn (read_from l.key) (source_views l.found.items) (reached_views (into_iter_items l.one-iterator))
    ≡ in_turn (read_from l.key) (source_views l.initial.found.items) (reached_views l.fn.there.items))
    × AreKeptAt (into_iter_items l.one-iterator)
