-- The latest site of what is left, or else the latest so far, is that of all.
use Rattle.std.proofs.Common.{◌≡◌, length}
use Rattle.std.specs.Arc.{arc_value}
use Rattle.std.specs.Prelude.{option_map, reverse}
use Rattle.site_core.specs.EntryViews.{events_of}
use Rattle.site_core.specs.Sets.{first_of, latest_site}
use Rattle.site_core.proofs.resuming.latest_site.Given as goal

abbrev pub invariant-loop-left : goal.invariant-loop-left
invariant-loop-left g l =
    first_of (latest_site (reverse (events_of l.left))) (option_map (λ a. arc_value a.now) l.latest)
    ≡ latest_site (reverse (events_of l.entries))

abbrev pub decreases-loop-left : goal.decreases-loop-left
decreases-loop-left g l = length l.left
