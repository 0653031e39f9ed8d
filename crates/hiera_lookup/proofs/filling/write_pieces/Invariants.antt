-- What was written, and what the rest adds, is what all of it adds.
use Rattle.std.proofs.Common.{◌≡◌, ◌++◌, drop, string_bytes}
use Rattle.std.specs.List.{flat_map}
use Rattle.hiera_lookup.specs.Filled.{answer_to, piece_text}
use Rattle.hiera_lookup.specs.World.{seen}
use Rattle.hiera_lookup.proofs.filling.write_pieces.Given as goal

abbrev pub invariant-loop-piece : goal.invariant-loop-piece
invariant-loop-piece l =
    string_bytes l.out ++ flat_map (piece_text ((seen l.world).reads) (answer_to l.answers))
    (drop l.piece-index l.pieces)
    ≡ string_bytes l.initial.out ++ flat_map (piece_text ((seen l.world).reads) (answer_to l.answers)) l.pieces
