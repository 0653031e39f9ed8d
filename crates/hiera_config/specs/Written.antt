-- The piece that a form makes, of which the code of pieces speaks.
use Rattle.std.specs.Prelude.{ℕ, Bool, true, false, List, ◌++◌, codes}
use Rattle.hiera_config.specs.declared.interpolation.Piece.{Piece}
use Rattle.hiera_config.specs.declared.interpolation.Piece.TheVariants as piece
use Rattle.hiera_config.specs.Pieces.{Form, variable, looked_up, said, alias, unlawful}

abbrev pub piece_in : List ℕ → Form → Piece
piece_in behind (variable name) = piece.Reads name
piece_in behind (looked_up key) = piece.Asks key
piece_in behind (said text) = piece.Letters text
piece_in behind (alias key) = piece.Broken (codes "%{" ++ behind)
piece_in behind unlawful = piece.Broken (codes "%{" ++ behind)

-- the pieces go on behind it
abbrev pub goes_on : Form → Bool
goes_on (alias key) = false
goes_on unlawful = false
goes_on form = true
