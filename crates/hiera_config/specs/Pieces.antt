-- The pieces of a text of the data: letters, and what stands between `%{` and `}`.
use Rattle.std.specs.Prelude.{ℕ, zero, suc, if◌then◌else◌, List, [], ◌∷◌, ◌++◌, length, Option, None, Some}
use Rattle.std.specs.Prelude.{option_and_then, is_some, codes}
use Rattle.hiera_config.specs.declared.interpolation.Piece.{Piece}
use Rattle.hiera_config.specs.declared.interpolation.Piece.TheVariants as piece
use Rattle.hiera_config.specs.Cuts.{Cut, cut_at, after_prefix, before_suffix, trimmed}

-- what stands between `%{` and `}`
pub data Form : Type 0 where
  -- a variable, with steps to dig by
  variable : List ℕ → Form
  -- the value of a key, as a text
  looked_up : List ℕ → Form
  -- these letters
  said : List ℕ → Form
  -- the value of a key itself, where this is the whole text
  alias : List ℕ → Form
  -- none of the lawful ones
  unlawful : Form

abbrev pub if_lacks : List ℕ → List ℕ → Option (List ℕ)
if_lacks mark text = if is_some (cut_at mark text) then None else Some text

-- `'text')` or `"text")`, by the quote
abbrev pub quoted : List ℕ → List ℕ → Option (List ℕ)
quoted quote text =
    option_and_then (if_lacks quote) (option_and_then (before_suffix (quote ++ codes ")")) (after_prefix quote text))

abbrev pub or_else : {A : Type 0} → Option A → Option A → Option A
or_else None other = other
or_else (Some a) other = Some a

-- the text in single or double quotes that stands there
abbrev pub argument : List ℕ → Option (List ℕ)
argument text = or_else (quoted (codes "'") text) (quoted (codes "\"") text)

-- the argument of this method, where the text calls it
abbrev pub argument_of : List ℕ → List ℕ → Option (List ℕ)
argument_of method text = option_and_then argument (after_prefix method text)

abbrev pub or_form : Option (List ℕ) → (List ℕ → Form) → Form → Form
or_form None form next = next
or_form (Some a) form next = form a

unfoldable pub method_of : List ℕ → Form
method_of text =
    or_form (argument_of (codes "scope(") text) variable
    (or_form (argument_of (codes "lookup(") text) looked_up
    (or_form (argument_of (codes "hiera(") text) looked_up
    (or_form (argument_of (codes "literal(") text) said
    (or_form (argument_of (codes "alias(") text) alias unlawful))))

-- what has no parenthesis is a variable
unfoldable pub form_of : List ℕ → Form
form_of text = if is_some (cut_at (codes "(") text) then method_of text else variable text

-- in a path of a configuration nothing else stands
unfoldable pub path_form : List ℕ → Form
path_form text = if is_some (cut_at (codes "(") text) then unlawful else variable text

-- ---- pieces

abbrev pub broken_from : List ℕ → List Piece
broken_from behind = piece.Broken (codes "%{" ++ behind) ∷ []

-- What comes of a form, and of the text behind it, whose pieces `go` gives. An alias that is not the whole text is
-- none.
abbrev pub form_pieces : (List ℕ → List Piece) → List ℕ → List ℕ → Form → List Piece
form_pieces go behind rest (variable name) = piece.Reads name ∷ go rest
form_pieces go behind rest (looked_up key) = piece.Asks key ∷ go rest
form_pieces go behind rest (said text) = piece.Letters text ∷ go rest
form_pieces go behind rest (alias key) = broken_from behind
form_pieces go behind rest unlawful = broken_from behind

-- behind `%{`: up to the first `}`
abbrev pub closed_pieces : (List ℕ → Form) → (List ℕ → List Piece) → List ℕ → Option Cut → List Piece
closed_pieces form go behind None = broken_from behind
closed_pieces form go behind (Some c) = form_pieces go behind c.1 (form (trimmed c.0))

abbrev pub opened_pieces : (List ℕ → Form) → (List ℕ → List Piece) → List ℕ → Option Cut → List Piece
opened_pieces form go text None = piece.Letters text ∷ []
opened_pieces form go text (Some c) = piece.Letters c.0 ∷ closed_pieces form go c.1 (cut_at (codes "}") c.1)

-- Each turn takes a `%{`, so as many turns as there are bytes are enough, and one to see the end
-- (`turns_suffice` of src/laws.rt).
unfoldable pub pieces_from : (List ℕ → Form) → ℕ → List ℕ → List Piece
pieces_from form zero text = []
pieces_from form (suc turns) text = opened_pieces form (pieces_from form turns) text (cut_at (codes "%{") text)

-- the pieces of a text, where `form` says what stands between `%{` and `}`
abbrev pub pieces_by : (List ℕ → Form) → List ℕ → List Piece
pieces_by form text = pieces_from form (suc (length text)) text

abbrev pub pieces : List ℕ → List Piece
pieces text = pieces_by form_of text

abbrev pub path_pieces : List ℕ → List Piece
path_pieces text = pieces_by path_form text

abbrev pub alias_of : Form → Option (List ℕ)
alias_of (alias key) = Some key
alias_of other = None

abbrev pub if_ends : Cut → Option (List ℕ)
if_ends (inner, []) = alias_of (form_of (trimmed inner))
if_ends (inner, b ∷ bs) = None

-- the key of an alias that is the whole text
unfoldable pub whole_alias : List ℕ → Option (List ℕ)
whole_alias text = option_and_then if_ends (option_and_then (cut_at (codes "}")) (after_prefix (codes "%{") text))
