-- White space, comments and lines. A text is the list of its bytes.
use Rattle.std.specs.Prelude.{ℕ, zero, suc, ◌+◌, ◌-◌, Bool, false, ◌&&◌, ◌||◌, if◌then◌else◌, ◌==◌, List, [], ◌∷◌, drop}
use Rattle.std.specs.Prelude.{slice_index, Option, Some, None}
use Rattle.std.specs.Char.{is_ascii_alphanumeric}
use Rattle.std.specs.List.{prefix_len}

-- a space, a tab, a carriage return or a line feed, and nothing else
abbrev pub is_white : ℕ → Bool
is_white b = b == 32 || b == 9 || b == 13 || b == 10

-- a letter or a digit of ASCII, or `_`
abbrev pub is_word : ℕ → Bool
is_word b = is_ascii_alphanumeric b || b == 95

-- the place behind the line feed that ends a line, counted from `at`
abbrev pub line_end : ℕ → List ℕ → ℕ
line_end at [] = at
line_end at (b ∷ z) = if b == 10 then at + 1 else line_end (at + 1) z

-- the place behind the first `*/`
abbrev pub comment_end : ℕ → List ℕ → Option ℕ
comment_end at [] = None
comment_end at (b ∷ z) = if b == 42 && slice_index z 0 == 47 then Some (at + 2) else comment_end (at + 1) z

-- `/*`
abbrev pub opens_comment : List ℕ → Bool
opens_comment z = slice_index z 0 == 47 && slice_index z 1 == 42

abbrev pub some_or_zero : Option ℕ → ℕ
some_or_zero None = 0
some_or_zero (Some n) = n

-- The length of the white space or the comment at the front of a text, or 0 where there is none. A comment goes from
-- `#` to the end of its line, or from `/*` to the first `*/` behind it.
unfoldable pub blank_len : List ℕ → ℕ
blank_len z =
    if is_white (slice_index z 0) then prefix_len is_white z
    else (if slice_index z 0 == 35 then line_end 1 (drop 1 z)
    else (if opens_comment z then some_or_zero (comment_end 2 (drop 2 z)) else 0))

-- Whether the next token is `{`. The number counts the bytes that are left of white space or a comment.
abbrev pub meets_brace : ℕ → List ℕ → Bool
meets_brace left [] = false
meets_brace (suc left) (b ∷ z) = meets_brace left z
meets_brace zero (b ∷ z) =
    let len = blank_len (b ∷ z) in
    if len == 0 then b == 123 else meets_brace (len - 1) z

-- a line feed ends a line
abbrev pub line_after : ℕ → ℕ → ℕ
line_after line b = if b == 10 then line + 1 else line

-- the line behind a text that begins on this line
abbrev pub line_at : ℕ → List ℕ → ℕ
line_at line [] = line
line_at line (b ∷ z) = line_at (line_after line b) z

-- the line of the end of the file, one more than the number of line feeds
abbrev pub end_line : List ℕ → ℕ
end_line = line_at 1
