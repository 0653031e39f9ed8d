-- Texts in quotes: where they and their parts end.
use Rattle.std.specs.Prelude.{ℕ, ◌+◌, Bool, true, false, ◌&&◌, ◌||◌, if◌then◌else◌, ◌==◌, List, [], ◌∷◌, drop, length}
use Rattle.std.specs.Prelude.{slice_index, Option, Some, None}
use Rattle.pp_lexer.specs.Fronts.{front, mark}
use Rattle.pp_lexer.specs.Words.{begins_word, word_len}
use Rattle.pp_lexer.specs.declared.front.Found.TheVariants as found
use Rattle.pp_lexer.specs.declared.front.Front.{Front}
use Rattle.pp_lexer.specs.declared.kind.Kind.TheVariants as kinds
use Rattle.pp_lexer.specs.declared.words.WordSort.TheVariants.{Variable}

-- ---- in single quotes

-- The place behind the closing quote. The flag says that a backslash takes the next byte, so that it closes nothing.
abbrev pub quoted_end : Bool → ℕ → List ℕ → Option ℕ
quoted_end taken at [] = None
quoted_end true at (b ∷ z) = quoted_end false (at + 1) z
quoted_end false at (b ∷ z) = if b == 39 then Some (at + 1) else quoted_end (b == 92) (at + 1) z

-- A text that the end of the file cuts off has a beginning, and no more.
unfoldable pub quoted : List ℕ → Front
quoted z = quoted_of z (quoted_end false 1 (drop 1 z))
  where
    quoted_of : List ℕ → Option ℕ → Front
    quoted_of z None = mark kinds.TextBegin (length z)
    quoted_of z (Some end) = front found.Quoted end

-- ---- in double quotes

-- `$` before `{` begins an interpolation, and before the name of a variable it is that variable.
abbrev pub opens_interpolation : List ℕ → Bool
opens_interpolation z = slice_index z 0 == 36 && slice_index z 1 == 123

abbrev pub opens_variable : List ℕ → Bool
opens_variable z = slice_index z 0 == 36 && begins_word Variable (drop 1 z)

-- a quote, an interpolation or a variable ends a run; any other `$` belongs to it
abbrev pub ends_run : List ℕ → Bool
ends_run z = slice_index z 0 == 34 || opens_interpolation z || opens_variable z

-- The place where a run ends. The flag says that a backslash takes the next byte, so that it ends nothing.
abbrev pub run_end : Bool → ℕ → List ℕ → ℕ
run_end taken at [] = at
run_end true at (b ∷ z) = run_end false (at + 1) z
run_end false at (b ∷ z) = if ends_run (b ∷ z) then at else run_end (b == 92) (at + 1) z

-- the length of a run that begins here
abbrev pub run_len : List ℕ → ℕ
run_len z = run_end (slice_index z 0 == 92) 1 (drop 1 z)

abbrev pub variable_in_text : List ℕ → Front
variable_in_text z = front (found.Dollar kinds.VariableInText) (word_len Variable (drop 1 z) + 1)

-- what stands at a place in a text in double quotes
unfoldable pub in_text : List ℕ → Front
in_text z =
    if slice_index z 0 == 34 then mark kinds.TextEnd 1
    else (if opens_interpolation z then mark kinds.InterpolationBegin 2
    else (if opens_variable z then variable_in_text z
    else front found.Run (run_len z)))
