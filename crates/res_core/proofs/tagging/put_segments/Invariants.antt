use Rattle.std.proofs.Common.{◌≡◌, ◌++◌, map, filter, length}
use denote.Shadow.{shadow}
use denote.Text.{Utf8}
use Rattle.res_core.specs.TagNames.{lowered, is_filled, segments}
use Rattle.res_core.proofs.tagging.put_segments.Given as goal

abbrev pub invariant-loop-segment : goal.invariant-loop-segment
invariant-loop-segment l =
    shadow (Utf8 l.rest) × (l.all.items ++ map lowered (filter is_filled (segments l.rest)) ≡ l.initial.all.items ++ map lowered (filter is_filled (segments l.name)))

abbrev pub decreases-loop-segment : goal.decreases-loop-segment
decreases-loop-segment l = length l.rest
