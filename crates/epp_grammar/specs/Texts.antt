-- What a template is made of, as a relation between its text and its pieces: what stands at a place, one part behind
-- another. A text is the list of its bytes.
use Rattle.std.specs.Prelude.{◌≡◌, ◌≢◌, ◌⊎◌, ℕ, Bool, true, false, List, [], ◌∷◌, ◌++◌, Option, Some, None, codes}
use Rattle.epp_text.specs.Pieces.{given, line_behind}
use Rattle.epp_text.specs.Seen.{Piece}
use Rattle.epp_text.specs.declared.piece.PieceKind.{PieceKind}
use Rattle.epp_text.specs.declared.piece.PieceKind.TheVariants as kinds

-- ---- words

-- the text begins with this one
abbrev pub Begins : List ℕ → List ℕ → Type 0
Begins front z = (rest : List ℕ) × (z ≡ front ++ rest)

-- the text ends with this byte
abbrev pub EndsWith : ℕ → List ℕ → Type 0
EndsWith b z = (front : List ℕ) × (z ≡ front ++ b ∷ [])

-- `%>` stands somewhere in the text
abbrev pub HoldsCloser : List ℕ → Type 0
HoldsCloser z = (before : List ℕ) × (after : List ℕ) × (z ≡ before ++ (codes "%>" ++ after))

-- a space or a tab
abbrev pub IsBlank : ℕ → Type 0
IsBlank b = (b ≡ 32) ⊎ (b ≡ 9)

abbrev pub AreBlank : List ℕ → Type 0
AreBlank [] = Unit {0}
AreBlank (b ∷ z) = IsBlank b × AreBlank z

-- a line feed, with or without a carriage return before it
abbrev pub BeginsWithBreak : List ℕ → Type 0
BeginsWithBreak z = Begins (10 ∷ []) z ⊎ Begins (13 ∷ 10 ∷ []) z

abbrev pub BeginsWithBlank : List ℕ → Type 0
BeginsWithBlank z = Begins (codes " ") z ⊎ Begins (9 ∷ []) z

-- ---- text outside of tags

-- a tag, `<%%` or `%%>`
abbrev pub BeginsMark : List ℕ → Type 0
BeginsMark z = Begins (codes "<%") z ⊎ Begins (codes "%%>") z

-- a run of text, which goes on to the next mark or to the end
pub record IsRun (run rest : List ℕ) : Type 0 where
  pub some : run ≢ []
  pub no_mark : (before after : List ℕ) → run ≡ before ++ after → after ≢ [] → BeginsMark (after ++ rest) → ⊥
  pub ends : (rest ≡ []) ⊎ BeginsMark rest

-- A line begins behind this part of a run: it ends with a line feed, or it is nothing where a line began before it.
abbrev pub BeginsLine : Bool → List ℕ → Type 0
BeginsLine begins part = EndsWith 10 part ⊎ ((part ≡ []) × (begins ≡ true))

-- blanks at the end of a run, with nothing else before them on their line
pub record IsIndented (begins : Bool) (run kept : List ℕ) : Type 0 where
  pub blanks : List ℕ
  pub are_blank : AreBlank blanks
  pub is : run ≡ kept ++ blanks
  pub line : BeginsLine begins kept

-- What is kept of a run: all of it, but for the blanks that a `<%-` behind it drops. The flag says that the run begins a
-- line.
pub data IsKept (begins : Bool) (run rest : List ℕ) : List ℕ → Type 0 where
  whole : (Begins (codes "<%-") rest → ⊥) → IsKept begins run rest run
  indent_dropped : (kept : List ℕ) → Begins (codes "<%-") rest → IsIndented begins run kept → IsKept begins run rest kept
  beside_others : Begins (codes "<%-") rest → ((kept : List ℕ) → IsIndented begins run kept → ⊥) →
      IsKept begins run rest run

-- ---- tags

-- How a tag begins, and what stands behind that: `<%=` emits a value, `<%#` is a comment, `<%` and `<%-` are code.
pub data Opens (z : List ℕ) : Option PieceKind → List ℕ → Type 0 where
  value : (inner : List ℕ) → z ≡ codes "<%=" ++ inner → Opens z (Some kinds.Value) inner
  comment : (inner : List ℕ) → z ≡ codes "<%#" ++ inner → Opens z None inner
  dropping_code : (inner : List ℕ) → z ≡ codes "<%-" ++ inner → Opens z (Some kinds.Code) inner
  code : (inner : List ℕ) → z ≡ codes "<%" ++ inner → (Begins (codes "=") inner → ⊥) → (Begins (codes "#") inner → ⊥)
      → (Begins (codes "-") inner → ⊥) → (Begins (codes "%") inner → ⊥) → Opens z (Some kinds.Code) inner

-- What `-%>` drops behind it: blanks, and one line break where one stands there. The flag says whether it dropped one;
-- what is left stands behind.
pub data AreDropped (behind : List ℕ) : Bool → List ℕ → Type 0 where
  feed : (blanks rest : List ℕ) → AreBlank blanks → behind ≡ blanks ++ 10 ∷ rest → AreDropped behind true rest
  return_and_feed : (blanks rest : List ℕ) → AreBlank blanks → behind ≡ blanks ++ 13 ∷ 10 ∷ rest →
      AreDropped behind true rest
  blanks_alone : (blanks rest : List ℕ) → AreBlank blanks → behind ≡ blanks ++ rest → (BeginsWithBlank rest → ⊥) →
      (BeginsWithBreak rest → ⊥) → AreDropped behind false rest

-- The text of a tag, up to the first `%>`; whether a line begins behind the tag, since it dropped a line break; and what
-- is left behind it.
pub data Closes (inner : List ℕ) : List ℕ → Bool → List ℕ → Type 0 where
  plain : (text rest : List ℕ) → inner ≡ text ++ (codes "%>" ++ rest) → (HoldsCloser text → ⊥) →
      (EndsWith 45 text → ⊥) → Closes inner text false rest
  dropping : (text behind rest : List ℕ) (broken : Bool) → inner ≡ text ++ (codes "-%>" ++ behind) →
      (HoldsCloser text → ⊥) → AreDropped behind broken rest → Closes inner text broken rest

-- ---- the parts of a template

-- What stands at a place: what it is, none for a comment; its text; whether a line begins behind it; and what is left
-- behind it.
pub data IsPart (begins : Bool) (z : List ℕ) : Option PieceKind → List ℕ → Bool → List ℕ → Type 0 where
  opener : (rest : List ℕ) → z ≡ codes "<%%" ++ rest → IsPart begins z (Some kinds.Text) (codes "<%") false rest
  closer : (rest : List ℕ) → z ≡ codes "%%>" ++ rest → IsPart begins z (Some kinds.Text) (codes "%>") false rest
  run : (text rest kept : List ℕ) → z ≡ text ++ rest → IsRun text rest → IsKept begins text rest kept →
      IsPart begins z (Some kinds.Text) kept false rest
  tag : (kind : Option PieceKind) (inner text rest : List ℕ) (broken : Bool) → Opens z kind inner →
      Closes inner text broken rest → IsPart begins z kind text broken rest
  unclosed : (kind : Option PieceKind) (inner : List ℕ) → Opens z kind inner → (HoldsCloser inner → ⊥) →
      IsPart begins z (Some kinds.Unclosed) [] false []

-- The pieces of a text from a place on, by its line and whether a line begins there: what each part gives, in order. A
-- comment and an empty text give none.
pub data AreFrom : Bool → ℕ → List ℕ → List Piece → Type 0 where
  none : (begins : Bool) (line : ℕ) → AreFrom begins line [] []
  part : (begins behind : Bool) (line : ℕ) (z taken rest text : List ℕ) (kind : Option PieceKind) (ps : List Piece) →
      z ≡ taken ++ rest → IsPart begins z kind text behind rest → AreFrom behind (line_behind line taken) rest ps →
      AreFrom begins line z (given kind text line ++ ps)

-- the pieces of a whole template, which begins a line
abbrev pub ArePieces : List ℕ → List Piece → Type 0
ArePieces z ps = AreFrom true 1 z ps
