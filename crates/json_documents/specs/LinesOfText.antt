-- The lines of a text, and what is told of a text that is no document.
use Rattle.std.specs.Prelude.{◌≡◌, ⊤, ℕ, zero, suc, ◌==◌, Bool, false, ◌||◌, if◌then◌else◌, List, [], ◌∷◌, ◌++◌, Option}
use Rattle.std.specs.Prelude.{Some, None, option_map, Result, Ok, Err}
use Rattle.json_documents.specs.declared.doc_stop.DocStop.{DocStop}
use Rattle.json_documents.specs.declared.doc_stop.DocStop.TheVariants as stop

-- The first n lines, each with its line feed. A text that has fewer gives all of it: what is missing counts as empty.
abbrev pub first_lines : ℕ → List ℕ → List ℕ
first_lines zero text = []
first_lines (suc n) [] = []
first_lines (suc n) (b ∷ bs) = b ∷ first_lines (if b == 10 then n else suc n) bs

-- the bytes before the first c and those behind it
abbrev pub cut_at : ℕ → List ℕ → Option (List ℕ × List ℕ)
cut_at c [] = None
cut_at c (b ∷ bs) = if b == c then Some ([], bs) else option_map (λ p. (b ∷ p.0, p.1)) (cut_at c bs)

-- the bytes before the first line feed and those behind it
abbrev pub cut_line : List ℕ → Option (List ℕ × List ℕ)
cut_line = cut_at 10

-- c is among the bytes
abbrev pub has_byte : ℕ → List ℕ → Bool
has_byte c [] = false
has_byte c (b ∷ bs) = (b == c) || has_byte c bs

-- ---- documents of one line

-- a text of one line, which ends in a line feed
abbrev pub IsOneLine : {A : Type 0} → (A → List ℕ → Type 0) → A → List ℕ → Type 0
IsOneLine IsLine a text = (line : List ℕ) × IsLine a line × (text ≡ line ++ 10 ∷ [])

-- a line, where nothing stands behind it, or else the number of the first bad line
abbrev pub if_at_end : {A : Type 0} → Option A → List ℕ → Result A ℕ
if_at_end None after = Err 1
if_at_end (Some a) [] = Ok a
if_at_end (Some a) (b ∷ bs) = Err 2

-- what a text of one line is read as, where `line_in` says what a line is
module _ {A : Type 0} (line_in : List ℕ → Option A) where
  abbrev pub read_parts : Option (List ℕ × List ℕ) → Result A ℕ
  read_parts None = Err 1
  read_parts (Some p) = if_at_end (line_in p.0) p.1

  abbrev pub read_one_line : List ℕ → Result A ℕ
  read_one_line text = read_parts (cut_line text)

-- exactly what is meant, unless memory ran out
abbrev pub Answers : {A : Type 0} → Result A DocStop → Result A ℕ → Type 0
Answers (Ok a) meant = meant ≡ Ok a
Answers (Err (stop.Bad n)) meant = meant ≡ Err n
Answers (Err stop.Memory) meant = ⊤

-- ---- documents of any number of lines

-- over which texts are documents, and of what
module _ {A : Type 0} (IsTextOf : A → List ℕ → Type 0) where
  -- the first n lines are those of a document
  abbrev pub Begins : ℕ → List ℕ → Type 0
  Begins n text = (a : A) × (written : List ℕ) × IsTextOf a written × (first_lines n text ≡ first_lines n written)

  -- line n, counted from 1, is the first one up to which the text begins as no document does
  abbrev pub IsFirstBad : ℕ → List ℕ → Type 0
  IsFirstBad n text = (k : ℕ) × (n ≡ suc k) × Begins k text × (Begins n text → ⊥)

  -- what a reader answers: the value of this text, or the first bad line, unless memory ran out
  abbrev pub ReadsDocument : List ℕ → Result A DocStop → Type 0
  ReadsDocument text (Ok a) = IsTextOf a text
  ReadsDocument text (Err (stop.Bad n)) = IsFirstBad n text
  ReadsDocument text (Err stop.Memory) = ⊤
