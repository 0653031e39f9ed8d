-- The pieces so far, and those of what is left.
use Rattle.std.proofs.Common.{◌≡◌, ◌++◌, length}
use denote.Shadow.{shadow}
use denote.Text.{Utf8}
use Rattle.hiera_config.specs.Pieces.{form_of, pieces_by}
use Rattle.hiera_config.proofs.interpolation.pieces.Given as goal

abbrev pub invariant-loop-before : goal.invariant-loop-before
invariant-loop-before l =
    shadow (Utf8 l.rest) × (l.pieces.items ++ pieces_by form_of l.rest
    ≡ pieces_by form_of l.text)

abbrev pub decreases-loop-before : goal.decreases-loop-before
decreases-loop-before l = length l.rest
