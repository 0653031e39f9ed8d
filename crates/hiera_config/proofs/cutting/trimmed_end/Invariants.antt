use Rattle.std.proofs.Common.{◌≡◌, length}
use denote.Shadow.{shadow}
use denote.Text.{Utf8}
use Rattle.hiera_config.specs.Cuts.{trimmed_end}
use Rattle.hiera_config.proofs.cutting.trimmed_end.Given as goal

abbrev pub invariant-loop-shorter : goal.invariant-loop-shorter
invariant-loop-shorter l = shadow (Utf8 l.rest) × (trimmed_end l.rest ≡ trimmed_end l.text)

abbrev pub decreases-loop-shorter : goal.decreases-loop-shorter
decreases-loop-shorter l = length l.rest
