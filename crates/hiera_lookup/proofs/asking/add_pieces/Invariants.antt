-- What is there, and what the rest asks, is what all of it asks.
use Rattle.std.proofs.Common.{◌≡◌, ◌++◌, drop}
use Rattle.std.specs.List.{flat_map}
use Rattle.hiera_lookup.specs.Asks.{piece_asks}
use Rattle.hiera_lookup.proofs.asking.add_pieces.Given as goal

abbrev pub invariant-loop-piece : goal.invariant-loop-piece
invariant-loop-piece l =
    l.asked.items ++ flat_map piece_asks (drop l.piece-index l.pieces)
    ≡ l.initial.asked.items ++ flat_map piece_asks l.pieces
