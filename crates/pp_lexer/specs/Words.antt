-- Names, types and variables.
use Rattle.std.specs.Prelude.{ℕ, ◌+◌, Bool, true, false, ◌&&◌, ◌||◌, if◌then◌else◌, ◌==◌, List, [], ◌∷◌, take, drop}
use Rattle.std.specs.Prelude.{length, map, slice_index}
use Rattle.std.specs.Char.{is_ascii_lowercase, is_ascii_uppercase}
use Rattle.std.specs.List.{list_any}
use Rattle.std.specs.Str.{bytes_eq}
use Rattle.pp_lexer.specs.Bytes.{is_word}
use Rattle.pp_lexer.specs.Fronts.{front, bad}
use Rattle.pp_lexer.specs.declared.front.Found.TheVariants as found
use Rattle.pp_lexer.specs.declared.front.Front.{Front}
use Rattle.pp_lexer.specs.declared.kind.Kind.{Kind}
use Rattle.pp_lexer.specs.declared.kind.Kind.TheVariants as kinds
use Rattle.pp_lexer.specs.declared.words.TheConstants.{WORDS}
use Rattle.pp_lexer.specs.declared.words.WordSort.{WordSort}
use Rattle.pp_lexer.specs.declared.words.WordSort.TheVariants as sorts

-- A segment of a type begins with a capital, and one of a name or a variable with a lower-case letter or `_`. It goes
-- on with letters, digits and `_`.
abbrev pub begins_segment : WordSort → ℕ → Bool
begins_segment sorts.Type b = is_ascii_uppercase b
begins_segment sorts.Name b = is_ascii_lowercase b || b == 95
begins_segment sorts.Variable b = is_ascii_lowercase b || b == 95

-- In a name and in a type `-` may stand between two bytes of a segment.
abbrev pub takes_dash : WordSort → Bool
takes_dash sorts.Variable = false
takes_dash sorts.Name = true
takes_dash sorts.Type = true

-- Whether this byte belongs to a word, by those behind it. `::` stands between segments, and may stand before the
-- first.
abbrev pub continues_word : WordSort → ℕ → List ℕ → Bool
continues_word sort b z = is_word b || (takes_dash sort && b == 45 && is_word (slice_index z 0))
    || (b == 58 && slice_index z 0 == 58 && begins_segment sort (slice_index z 1))

-- The place behind a word. The flag says that the next byte is the second of `::`.
abbrev pub word_end : WordSort → Bool → ℕ → List ℕ → ℕ
word_end sort second at [] = at
word_end sort true at (b ∷ z) = word_end sort false (at + 1) z
word_end sort false at (b ∷ z) = if continues_word sort b z then word_end sort (b == 58) (at + 1) z else at

abbrev pub begins_word : WordSort → List ℕ → Bool
begins_word sort z =
    begins_segment sort (slice_index z 0)
    || (slice_index z 0 == 58 && slice_index z 1 == 58 && begins_segment sort (slice_index z 2))

-- the length of a word that begins here
abbrev pub word_len : WordSort → List ℕ → ℕ
word_len sort z = word_end sort (slice_index z 0 == 58) 1 (drop 1 z)

abbrev pub named : List (List ℕ × Kind) → List ℕ → Kind
named [] spelling = kinds.Name
named (w ∷ ws) spelling = if bytes_eq spelling w.0 then w.1 else named ws spelling

-- the words of one length
abbrev pub words_of_length : ℕ → List (List ℕ × Kind) → List (List ℕ × Kind)
words_of_length n [] = []
words_of_length n (w ∷ ws) = if length w.0 == n then w ∷ words_of_length n ws else words_of_length n ws

-- A keyword or the name of a statement function is a name that is spelled exactly so.
unfoldable pub name_kind : List ℕ → Kind
name_kind = named (map (λ w. (w.0.now, w.1)) WORDS)

unfoldable pub name : List ℕ → Front
name z = let len = word_len sorts.Name z in front (found.Word (name_kind (take len z))) len

unfoldable pub type_name : List ℕ → Front
type_name z = front (found.Word kinds.Type) (word_len sorts.Type z)

-- A variable is qualified where `::` stands before or within its name.
abbrev pub variable_kind : List ℕ → Kind
variable_kind z = if list_any (λ b. b == 58) z then kinds.QualifiedVariable else kinds.Variable

-- A variable behind its `$`. Before anything else `$` is no token.
unfoldable pub variable : List ℕ → Front
variable z =
    let len = word_len sorts.Variable (drop 1 z) in
    if begins_word sorts.Variable (drop 1 z) then front (found.Dollar (variable_kind (take len (drop 1 z)))) (len + 1)
    else bad z
