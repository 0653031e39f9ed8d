-- Documents of any number of lines: a table says in each state which lines may come, how each is written, and where a
-- document may end.
use Rattle.std.specs.Prelude.{◌≡◌, ℕ, ◌+◌, ◌==◌, Bool, true, if◌then◌else◌, List, [], ◌∷◌, ◌++◌, Option, Some, None}
use Rattle.std.specs.Prelude.{option_and_then, option_map, Result, Ok, Err}

pub record LineTable (S L : Type 0) : Type 1 where
  -- the state behind a line, where the line may come
  pub next : S → L → Option S
  -- whether a document may end here
  pub ends : S → Bool
  -- the text of a line without its line feed
  pub text : S → L → List ℕ
  -- what a line has to be
  pub Fits : S → L → Type 0

-- the finished lines of a text, and what stands behind the last line feed
abbrev pub with_byte : ℕ → List (List ℕ) × List ℕ → List (List ℕ) × List ℕ
with_byte b ([], rest) = ([], b ∷ rest)
with_byte b (l ∷ ls, rest) = ((b ∷ l) ∷ ls, rest)

abbrev pub add_byte : ℕ → List (List ℕ) × List ℕ → List (List ℕ) × List ℕ
add_byte b p = if b == 10 then ([] ∷ p.0, p.1) else with_byte b p

unfoldable pub split_lines : List ℕ → List (List ℕ) × List ℕ
split_lines [] = ([], [])
split_lines (b ∷ bs) = add_byte b (split_lines bs)

abbrev pub result_map : {A B : Type 0} → (A → B) → Result A ℕ → Result B ℕ
result_map f (Ok a) = Ok (f a)
result_map f (Err n) = Err n

module _ {S L : Type 0} (table : LineTable S L) where
  -- these lines, from a state on, are written so
  abbrev pub IsDocument : S → List L → List ℕ → Type 0
  IsDocument s [] text = (table.ends s ≡ true) × (text ≡ [])
  IsDocument s (l ∷ ls) text =
      (t : S) × (rest : List ℕ) × table.Fits s l × (table.next s l ≡ Some t) × IsDocument t ls rest
      × (text ≡ table.text s l ++ 10 ∷ rest)

  -- where `line_in` says which line a text is: the lines of a text, or the number of the first bad one, behind n others
  module _ (line_in : S → List ℕ → Option L) where
    -- a line, and the state behind it
    abbrev pub line_and_next : S → List ℕ → Option (L × S)
    line_and_next s x = option_and_then (λ l. option_map (λ t. (l, t)) (table.next s l)) (line_in s x)

    abbrev pub at_end : S → ℕ → List ℕ → Result (List L) ℕ
    at_end s n [] = if table.ends s then Ok [] else Err (n + 1)
    at_end s n (b ∷ bs) = Err (n + 1)

    abbrev pub if_line : (S → Result (List L) ℕ) → ℕ → Option (L × S) → Result (List L) ℕ
    if_line more n None = Err (n + 1)
    if_line more n (Some p) = result_map (λ ls. p.0 ∷ ls) (more p.1)

    unfoldable pub lines_read : List ℕ → List (List ℕ) → S → ℕ → Result (List L) ℕ
    lines_read rest [] s n = at_end s n rest
    lines_read rest (x ∷ xs) s n = if_line (λ t. lines_read rest xs t (n + 1)) n (line_and_next s x)

    abbrev pub read_lines : S → ℕ → List ℕ → Result (List L) ℕ
    read_lines s n text = lines_read (split_lines text).1 (split_lines text).0 s n
