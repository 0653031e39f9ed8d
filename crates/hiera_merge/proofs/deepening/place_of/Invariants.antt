-- The key is not among those before the index.
use Rattle.std.proofs.Common.{◌≡◌, ◌+◌, drop, map}
use Rattle.std.specs.Prelude.{option_map}
use Rattle.pp_values.specs.Places.{place_of}
use Rattle.pp_values.specs.Views.{view}
use Rattle.hiera_merge.specs.DeepSteps.{top, stacks}
use Rattle.hiera_merge.proofs.deepening.place_of.Given as goal

abbrev pub invariant-loop-i : goal.invariant-loop-i
invariant-loop-i l =
    place_of (view l.key) (map top (stacks l.columns))
    ≡ option_map (λ n. l.i + n) (place_of (view l.key) (map top (stacks (drop l.i l.columns))))
