-- What is left of the text, behind what was written so far.
use Rattle.std.proofs.Common.{◌≡◌, length, string_bytes}
use denote.Shadow.{shadow}
use denote.Text.{Utf8}
use Rattle.hiera_config.specs.Meant.{in_turn}
use Rattle.hiera_config.specs.Pieces.{path_pieces}
use Rattle.hiera_config.specs.Seen.{names_seen}
use Rattle.hiera_config.specs.Variables.{path_piece}
use Rattle.hiera_config.proofs.paths.add_text.Given as goal

abbrev pub invariant-loop-before : goal.invariant-loop-before
invariant-loop-before l =
    shadow (Utf8 l.rest) × (in_turn (path_piece (names_seen l.names)) (string_bytes l.out) (path_pieces l.rest)
    ≡ in_turn (path_piece (names_seen l.names)) (string_bytes l.initial.out) (path_pieces l.text))

abbrev pub decreases-loop-before : goal.decreases-loop-before
decreases-loop-before l = length l.rest
