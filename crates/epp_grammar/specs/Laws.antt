-- That the pieces of a template are those of the relation.
use Rattle.std.specs.Prelude.{◌≡◌, ◌↔◌, ℕ, List}
use Rattle.epp_text.specs.Pieces.{pieces_of}
use Rattle.epp_text.specs.Seen.{Piece}
use Rattle.epp_grammar.specs.Texts.{ArePieces}

-- each text has its pieces by the relation, and no others
abbrev pub PiecesAreRead : Type 0
PiecesAreRead = (text : List ℕ) (ps : List Piece) → (pieces_of text ≡ ps) ↔ ArePieces text ps
