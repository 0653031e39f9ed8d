-- The path among the rest from the index on is the path among all; the key is the root as a text.
use Rattle.std.proofs.Common.{◌≡◌, drop}
use Rattle.pp_values.specs.Datum.{text}
use Rattle.pp_values.specs.Views.{view}
use Rattle.hiera_config.specs.Found.{source_views}
use Rattle.hiera_lookup.specs.Options.{highest_path}
use Rattle.hiera_lookup.specs.World.{seen}
use Rattle.hiera_lookup.proofs.option_reading.highest_path.Given as goal

abbrev pub invariant-loop-source : goal.invariant-loop-source
invariant-loop-source l =
    (highest_path (seen l.world) l.answers l.root (source_views l.sources)
    ≡ highest_path (seen l.world) l.answers l.root (source_views (drop l.source-index l.sources)))
    × (view l.key ≡ text l.root)
