-- What the digits that are left lead to, behind the place so far, is what all of them lead to.
use Rattle.std.proofs.Common.{◌≡◌, ◌+◌, ◌*◌, ◌≤◌, length}
use Rattle.std.specs.Prelude.{option_and_then, slice_get}
use Rattle.pp_values.specs.Views.{views}
use Rattle.hiera_merge.specs.Digging.{place_from}
use Rattle.hiera_merge.proofs.digging.item_from.Given as goal

abbrev pub invariant-loop-left : goal.invariant-loop-left
invariant-loop-left l =
    (option_and_then (slice_get (views l.items)) (place_from l.place l.left) ≡ option_and_then (slice_get (views l.items)) (place_from 0 l.digits))
    × (l.place ≤ 10 * length l.items + 255) × (l.count ≡ length l.items)

abbrev pub decreases-loop-left : goal.decreases-loop-left
decreases-loop-left l = length l.left
