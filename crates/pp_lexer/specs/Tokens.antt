-- The tokens of a text. A text is the list of its bytes.
use Rattle.std.specs.Prelude.{ℕ, ℤ, pos, zero, suc, ◌-◌, Bool, true, false, not, if◌then◌else◌, ◌==◌, List, [], ◌∷◌}
use Rattle.std.specs.Prelude.{◌++◌, length, take, drop, slice_index, slice_get, Option, Some, None, Result, Ok, Err}
use Rattle.std.specs.Char.{is_ascii_digit}
use Rattle.pp_values.specs.declared.fault.Fault.{Fault}
use Rattle.pp_values.specs.declared.fault.What.TheVariants.{Syntax}
use Rattle.pp_lexer.specs.Bytes.{blank_len, opens_comment, meets_brace, line_after}
use Rattle.pp_lexer.specs.Digits.{number_said}
use Rattle.pp_lexer.specs.Escapes.{said}
use Rattle.pp_lexer.specs.Fronts.{front}
use Rattle.pp_lexer.specs.Marks.{punctuation}
use Rattle.pp_lexer.specs.Modes.{mode_after, open_after, in_interpolation}
use Rattle.pp_lexer.specs.Numbers.{number}
use Rattle.pp_lexer.specs.Texts.{quoted, in_text}
use Rattle.pp_lexer.specs.Words.{begins_word, name, type_name, variable}
use Rattle.pp_lexer.specs.declared.escapes.Quotes.TheVariants.{Single, Double}
use Rattle.pp_lexer.specs.declared.front.Found.{Found}
use Rattle.pp_lexer.specs.declared.front.Found.TheVariants as found
use Rattle.pp_lexer.specs.declared.front.Front.{Front}
use Rattle.pp_lexer.specs.declared.kind.Kind.{Kind}
use Rattle.pp_lexer.specs.declared.kind.Kind.TheVariants as kinds
use Rattle.pp_lexer.specs.declared.mode.Mode.{Mode}
use Rattle.pp_lexer.specs.declared.mode.Mode.TheVariants as modes
use Rattle.pp_lexer.specs.declared.mode.Open.{Open}
use Rattle.pp_lexer.specs.Seen.{Token}
use Rattle.pp_lexer.specs.declared.token.Manner.{Manner}
use Rattle.pp_lexer.specs.declared.token.Manner.TheVariants as manners
use Rattle.pp_lexer.specs.declared.words.WordSort.TheVariants as sorts

-- ---- what stands at a place

-- the token at a place outside of texts, where neither white space nor a comment stands
unfoldable pub token_front : List ℕ → Front
token_front z =
    if slice_index z 0 == 39 then quoted z
    else (if slice_index z 0 == 36 then variable z
    else (if is_ascii_digit (slice_index z 0) then number z
    else (if begins_word sorts.Name z then name z
    else (if begins_word sorts.Type z then type_name z else punctuation z))))

-- A comment that nothing ends goes on to the end of the file.
unfoldable pub in_code : List ℕ → Front
in_code z =
    if not (blank_len z == 0) then front found.Blank (blank_len z)
    else (if opens_comment z then front found.CutOff (length z) else token_front z)

-- `[` directly behind a token, `}` that ends an interpolation, and `|` before `{` are kinds of their own.
abbrev pub kind_in_place : Mode → List Open → List ℕ → Kind → Kind
kind_in_place modes.AfterToken nest behind kinds.OpenBracket = kinds.TightBracket
kind_in_place mode nest behind kinds.CloseBrace =
    if in_interpolation nest then kinds.InterpolationEnd else kinds.CloseBrace
kind_in_place mode nest behind kinds.Bar = if meets_brace 0 behind then kinds.LastBar else kinds.Bar
kind_in_place mode nest behind kind = kind

abbrev pub found_in_place : Mode → List Open → List ℕ → Found → Found
found_in_place mode nest behind (found.Mark kind) = found.Mark (kind_in_place mode nest behind kind)
found_in_place mode nest behind f = f

abbrev pub in_place : Mode → List Open → List ℕ → Front → Front
in_place mode nest z f = front (found_in_place mode nest (drop 1 z) f.found) f.len

-- what stands at the front of a text that is not empty
abbrev pub front_at : Mode → List Open → List ℕ → Front
front_at modes.Inside nest z = in_text z
front_at mode nest z = in_place mode nest z (in_code z)

-- ---- the tokens of a text

abbrev pub token : Kind → List ℕ → ℕ → Token
token kind text line = record { kind = kind; text = text; line = line; number = pos 0 }

abbrev pub number_token : ℤ → ℕ → Token
number_token n line = record { kind = kinds.Number; text = []; line = line; number = n }

-- what a token says and its number, from its spelling
abbrev pub text_of : Manner → List ℕ → List ℕ
text_of manners.Nothing z = []
text_of manners.Written z = z
text_of (manners.Quoted q) z = said q 0 z
text_of manners.Number z = []

abbrev pub number_of : Manner → List ℕ → ℤ
number_of manners.Number z = number_said z
number_of _ z = pos 0

abbrev pub seen : Manner → Kind → List ℕ → ℕ → Token
seen m kind z line = record { kind = kind; text = text_of m z; line = line; number = number_of m z }

-- a run that says something
abbrev pub piece : List ℕ → ℕ → List Token
piece [] line = []
piece (b ∷ z) line = token kinds.Piece (b ∷ z) line ∷ []

-- what a text in single quotes says, from its spelling
abbrev pub quoted_text : List ℕ → List ℕ
quoted_text spelling = said Single 0 (take (length spelling - 2) (drop 1 spelling))

-- the tokens of what stands at a place, from its spelling
abbrev pub emitted : ℕ → Found → List ℕ → List Token
emitted line found.Blank spelling = []
emitted line found.CutOff spelling = []
emitted line (found.Mark kind) spelling = token kind [] line ∷ []
emitted line (found.Word kind) spelling = token kind spelling line ∷ []
emitted line (found.Dollar kind) spelling = token kind (drop 1 spelling) line ∷ []
emitted line (found.Number n) spelling = number_token n line ∷ []
emitted line found.Quoted spelling = token kinds.Text (quoted_text spelling) line ∷ []
emitted line found.Run spelling = piece (said Double 0 spelling) line

-- The end of the file within a text or a comment is a token.
abbrev pub at_end : Mode → ℕ → List Token
at_end modes.Inside line = token kinds.Unclosed [] line ∷ []
at_end _ line = []

-- The tokens from a place on, by its line, what is behind it and the open braces. The number counts the bytes that are
-- left of what stands before.
abbrev pub tokens_from : ℕ → Mode → List Open → ℕ → List ℕ → List Token
tokens_from line mode nest left [] = at_end mode line
tokens_from line mode nest (suc left) (b ∷ z) = tokens_from (line_after line b) mode nest left z
tokens_from line mode nest zero (b ∷ z) =
    let f = front_at mode nest (b ∷ z) in
    emitted line f.found (take f.len (b ∷ z))
    ++ tokens_from (line_after line b) (mode_after f.found) (open_after f.found nest) (f.len - 1) z

unfoldable pub tokens : List ℕ → List Token
tokens = tokens_from 1 modes.AfterBlank [] 0

-- those of a text that begins on this line
unfoldable pub tokens_at : ℕ → List ℕ → List Token
tokens_at line = tokens_from line modes.AfterBlank [] 0

-- ---- the tokens of a file, or its fault

abbrev pub ends_early : Kind → Bool
ends_early kinds.Bad = true
ends_early kinds.Unclosed = true
ends_early _ = false

abbrev pub early_line : Option Token → Option ℕ
early_line None = None
early_line (Some t) = if ends_early t.kind then Some t.line else None

-- the line of the last token, where that ends the list early
abbrev pub early_end : List Token → Option ℕ
early_end ts = early_line (slice_get ts (length ts - 1))

abbrev pub syntax_fault : List ℕ → ℕ → Fault
syntax_fault file line = record { at = record { file = file; line = line }; what = Syntax }

abbrev pub whole_or_fault : List ℕ → List Token → Option ℕ → Result (List Token) Fault
whole_or_fault file ts None = Ok ts
whole_or_fault file ts (Some line) = Err (syntax_fault file line)

-- the tokens of a file, or the fault at the line where they end early
unfoldable pub lexed : List ℕ → List ℕ → Result (List Token) Fault
lexed file text = whole_or_fault file (tokens text) (early_end (tokens text))
