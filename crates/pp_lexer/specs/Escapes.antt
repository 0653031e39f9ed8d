-- What texts say: their bytes, with escapes in place of what they stand for.
use Rattle.std.specs.Prelude.{◌≡◌, ℕ, zero, suc, ◌+◌, ◌-◌, ◌<◌, ◌≤◌, ◌&&◌, ◌||◌, if◌then◌else◌, ◌==◌, nat_lt, nat_le}
use Rattle.std.specs.Prelude.{List, [], ◌∷◌, ◌++◌, length, take, drop, slice_index, Option, Some, None, MatchOption}
use Rattle.std.specs.Char.{encode_utf8, is_ascii_hexdigit}
use Rattle.std.specs.List.{prefix_len}
use lib.Utf8.{scalar}
use denote.Ref.{Bor}
use Rattle.pp_lexer.specs.Digits.{digits_value}
use Rattle.pp_lexer.specs.declared.escapes.Escape.{Escape}
use Rattle.pp_lexer.specs.declared.escapes.Quotes.{Quotes}
use Rattle.pp_lexer.specs.declared.escapes.Quotes.TheVariants as quotes

-- what a backslash says, and how many of the bytes behind it it takes
abbrev pub escape_of : Option ℕ → ℕ → Escape
escape_of says taken = record { says = says; taken = taken }

-- it takes these bytes where they name a character, and else it stands for itself
abbrev pub naming : ℕ → Option ℕ → Escape
naming taken None = escape_of (Some 92) 0
naming taken (Some c) = escape_of (Some c) taken

-- ---- in single quotes

-- a backslash or a single quote stands for itself
abbrev pub single_letter : ℕ → Option ℕ
single_letter b = if b == 92 || b == 39 then Some b else None

-- ---- in double quotes

-- `\n`, `\r`, `\t`, `\s`, `\$`, `\"`, `\'` and `\\`
abbrev pub double_letter : ℕ → Option ℕ
double_letter b =
    if b == 110 then Some 10
    else (if b == 114 then Some 13
    else (if b == 116 then Some 9
    else (if b == 115 then Some 32
    else (if b == 36 || b == 34 || b == 39 || b == 92 then Some b else None))))

-- a number is that of a character, and not that of a surrogate
abbrev pub as_character : Option ℕ → Option ℕ
as_character None = None
as_character (Some n) = if scalar n then Some n else None

-- the character that hexadecimal digits name
abbrev pub character : List ℕ → Option ℕ
character digits = as_character (digits_value 16 digits)

-- behind `\u{`: one to six hexadecimal digits and `}`
unfoldable pub braced : List ℕ → Escape
braced z =
    let len = prefix_len is_ascii_hexdigit z in
    naming (len + 3) (if nat_le len 6 && slice_index z len == 125 then character (take len z) else None)

-- behind `\u`: four hexadecimal digits
unfoldable pub four_digits : List ℕ → Escape
four_digits z = naming 5 (if nat_lt (length z) 4 then None else character (take 4 z))

abbrev pub unicode : List ℕ → Escape
unicode z = if slice_index z 0 == 123 then braced (drop 1 z) else four_digits z

-- A backslash and the line break behind it say nothing.
unfoldable pub double : List ℕ → Escape
double z =
    if slice_index z 0 == 117 then unicode (drop 1 z)
    else (if slice_index z 0 == 10 then escape_of None 1
    else (if slice_index z 0 == 13 && slice_index z 1 == 10 then escape_of None 2
    else naming 1 (double_letter (slice_index z 0))))

-- ---- a whole text

-- what a backslash says, by what stands behind it
abbrev pub escape : Quotes → List ℕ → Escape
escape quotes.Single z = naming 1 (single_letter (slice_index z 0))
escape quotes.Double z = double z

abbrev pub bytes_of : Option ℕ → List ℕ
bytes_of None = []
bytes_of (Some c) = encode_utf8 c

-- The escape at a place: any other byte than a backslash says itself.
abbrev pub says_at : Quotes → ℕ → List ℕ → List ℕ
says_at q b z = if b == 92 then bytes_of (escape q z).says else b ∷ []

abbrev pub taken_at : Quotes → ℕ → List ℕ → ℕ
taken_at q b z = if b == 92 then (escape q z).taken else 0

-- What a text says. The number counts the bytes that an escape still takes.
unfoldable pub said : Quotes → ℕ → List ℕ → List ℕ
said q left [] = []
said q (suc left) (b ∷ z) = said q left z
said q zero (b ∷ z) = says_at q b z ++ said q (taken_at q b z) z

-- ---- what the reader of a text relies on

-- an escape takes bytes that are there, and the last of them is ASCII
pub record IsEscape (behind : List ℕ) (e : Escape) : Type 0 where
  pub within : e.taken ≤ length behind
  pub ascii : 0 < e.taken → slice_index behind (e.taken - 1) < 128

-- a text says what stands before its first backslash, what this one says, and what the rest says
pub record IsSplit (q : Quotes) (text plain : List ℕ) (e : Escape) (left : List ℕ) : Type 0 where
  pub says : said q 0 text ≡ plain ++ (bytes_of e.says ++ said q 0 left)
  pub shorter : length left < length text

abbrev pub Splits : Quotes → List ℕ → Option (Bor (List ℕ) × Escape × Bor (List ℕ)) → Type 0
Splits q text result = MatchOption result (said q 0 text ≡ text) (λ x. IsSplit q text x.0.now x.1 x.2.now)
