-- What is left decides.
use Rattle.std.proofs.Common.{◌≡◌, ◌+◌, length}
use Rattle.res_core.specs.TagPlaces.{place_in}
use Rattle.res_core.proofs.PlaceLemmas.{further_on}
use Rattle.res_core.proofs.tags.place_of.Given as goal

abbrev pub invariant-loop-item : goal.invariant-loop-item
invariant-loop-item l =
    (place_in l.text l.items ≡ further_on l.place (place_in l.text l.rest))
    × (l.place + length l.rest ≡ length l.items)

abbrev pub decreases-loop-item : goal.decreases-loop-item
decreases-loop-item l = length l.rest
