-- What stands at the front of a text. A text is the list of its bytes.
use Rattle.std.specs.Prelude.{◌≡◌, ℕ, ℤ, ◌-◌, ◌<◌, ◌≤◌, Bool, true, false, List, length, take, slice_index}
use Rattle.std.specs.Str.{IsCharBoundary}
use Rattle.pp_lexer.specs.Bytes.{line_after, line_at}
use Rattle.pp_lexer.specs.Digits.{number_said}
use Rattle.pp_lexer.specs.declared.front.Found.{Found}
use Rattle.pp_lexer.specs.declared.front.Found.TheVariants as found
use Rattle.pp_lexer.specs.declared.front.Front.{Front}
use Rattle.pp_lexer.specs.declared.kind.Kind.{Kind}
use Rattle.pp_lexer.specs.declared.kind.Kind.TheVariants as kinds

abbrev pub front : Found → ℕ → Front
front f len = record { found = f; len = len }

-- a token that says nothing
abbrev pub mark : Kind → ℕ → Front
mark kind len = front (found.Mark kind) len

-- No token can be read at this place, and nothing behind it is.
abbrev pub bad : List ℕ → Front
bad z = mark kinds.Bad (length z)

-- ---- what the reader of a file relies on

-- a text in single quotes stands between two quotes
pub record IsBetweenQuotes (text : List ℕ) (len : ℕ) : Type 0 where
  pub two : 2 ≤ len
  pub opening : slice_index text 0 ≡ 39
  pub closing : slice_index text (len - 1) ≡ 39

-- a token of which a text leaves out the ends has them, and a number is what its digits say
pub record HasEnds (text : List ℕ) (f : Found) (len : ℕ) : Type 0 where
  pub quotes : f ≡ found.Quoted → IsBetweenQuotes text len
  pub dollar : (k : Kind) → f ≡ found.Dollar k → slice_index text 0 ≡ 36
  pub number : (n : ℤ) → f ≡ found.Number n → number_said (take len text) ≡ n

-- it is not empty and no longer than the text, and where more follows its last byte is ASCII
pub record IsPiece (text : List ℕ) (f : Front) : Type 0 where
  pub moves : 1 ≤ f.len
  pub within : f.len ≤ length text
  pub last : f.len < length text → slice_index text (f.len - 1) < 128
  pub ends : HasEnds text f.found f.len

-- the same, where the text may be cut behind it
pub record IsPart (text : List ℕ) (f : Front) : Type 0 where
  pub moves : 1 ≤ f.len
  pub boundary : IsCharBoundary text f.len
  pub ends : HasEnds text f.found f.len

-- words, variables and numbers
abbrev pub is_on_line : Found → Bool
is_on_line (found.Word k) = true
is_on_line (found.Dollar k) = true
is_on_line (found.Number n) = true
is_on_line _ = false

-- what stands on one line, and a comment from `#` on, in which a line feed is the last byte
pub record HasLines (text : List ℕ) (f : Found) : Type 0 where
  pub one : is_on_line f ≡ true → (line : ℕ) → line_at line text ≡ line
  pub comment : f ≡ found.Blank → slice_index text 0 ≡ 35 → (line : ℕ) →
      line_at line text ≡ line_after line (slice_index text (length text - 1))
