-- The tables that are left, put over what is kept so far, give the whole.
use Rattle.std.proofs.Common.{◌≡◌, ℕ, true, List, length}
use Rattle.hiera_config.specs.Found.{source_views}
use Rattle.hiera_config.specs.FileOptions.{option_among}
use Rattle.hiera_config.specs.OptionTables.{are_tables, first_options}
use Rattle.hiera_config.specs.Sound.{or_else}
use Rattle.hiera_config.proofs.option_table.joined.Given as goal

abbrev pub invariant-loop-source : goal.invariant-loop-source
invariant-loop-source l =
    (are_tables (source_views l.left.items) ≡ true)
    × ((root : List ℕ) → or_else (first_options root (source_views l.left.items)) (option_among l.by_key.entries root)
    ≡ first_options root (source_views l.fn.sources.items))

abbrev pub decreases-loop-source : goal.decreases-loop-source
decreases-loop-source l = length l.left.items
