-- The pairs that are left, put over what is kept so far, give the whole.
use Rattle.std.proofs.Common.{◌≡◌, ℕ, List, length}
use Rattle.pp_values.specs.Datum.{text}
use Rattle.pp_values.specs.Keys.{value_at}
use Rattle.pp_values.specs.Views.{pair_views}
use Rattle.hiera_config.specs.FileOptions.{option_among}
use Rattle.hiera_config.specs.Sound.{or_else}
use Rattle.hiera_config.proofs.option_table.put_pairs.Given as goal

abbrev pub invariant-loop-key : goal.invariant-loop-key
invariant-loop-key l =
    (root : List ℕ) → or_else (value_at (text root) (pair_views l.left.items)) (option_among l.by_key.entries root)
    ≡ or_else (value_at (text root) l.fn.pairs) (option_among l.initial.by_key.entries root)

abbrev pub decreases-loop-key : goal.decreases-loop-key
decreases-loop-key l = length l.left.items
