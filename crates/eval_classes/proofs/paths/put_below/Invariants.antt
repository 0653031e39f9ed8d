-- What is there, and what the rest adds, is what all of it adds.
use Rattle.std.proofs.Common.{◌≡◌, ◌++◌, length, string_bytes}
use denote.Shadow.{shadow}
use denote.Text.{Utf8}
use Rattle.res_core.specs.TagNames.{segments}
use Rattle.eval_classes.specs.Definitions.{below}
use Rattle.eval_classes.proofs.paths.put_below.Given as goal

abbrev pub invariant-loop-segment : goal.invariant-loop-segment
invariant-loop-segment l =
    shadow (Utf8 l.rest)
    × (string_bytes l.path ++ below (segments l.rest) ≡ string_bytes l.initial.path ++ below (segments l.name))

abbrev pub decreases-loop-segment : goal.decreases-loop-segment
decreases-loop-segment l = length l.rest
