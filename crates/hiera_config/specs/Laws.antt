-- That the number of turns in which the pieces of a text are found decides nothing.
use Rattle.std.specs.Prelude.{◌≡◌, ◌<◌, ℕ, List, length}
use Rattle.hiera_config.specs.Pieces.{Form, pieces_from, pieces_by}

-- More turns than a text has bytes give the same pieces, whatever stands between `%{` and `}`.
abbrev pub TurnsSuffice : Type 0
TurnsSuffice = (form : List ℕ → Form) (turns : ℕ) (text : List ℕ) → length text < turns
    → pieces_from form turns text ≡ pieces_by form text
