-- What stands between two places of a file. A place is what is left to read from it on.
use Rattle.std.specs.Prelude.{◌≡◌, ℕ, Bool, true, false, List, [], ◌∷◌, Option, Some, None}
use Rattle.pp_lexer.specs.declared.kind.Kind.{Kind}
use Rattle.pp_lexer.specs.Seen.{Token}
use Rattle.pp_parser.specs.declared.inset.Inset.{Inset}
use Rattle.pp_parser.specs.declared.inset.InsetTree.{InsetTree}
use Rattle.pp_parser.specs.Input.{Input}
use Rattle.pp_grammar.specs.Kinds.{is_kind}

-- ---- the next token

unfoldable pub kind_at : List Token → Option Kind
kind_at [] = None
kind_at (t ∷ ts) = Some t.kind

-- its kind, or none at the end of the file
unfoldable pub kind : Input → Option Kind
kind i = kind_at i.left

-- its line, or 0 at the end of the file
unfoldable pub line_at : List Token → ℕ
line_at [] = 0
line_at (t ∷ ts) = t.line

-- ---- phrases

-- a sort of phrase: which of its sort stand from one place to another
abbrev pub Phrase : Type 0 → Type 1
Phrase A = Input → A → Input → Type 0

-- the place before a token
abbrev pub before : Token → Input → Input
before t j = record { left = t ∷ j.left; doubled = j.doubled }

-- one token, of a kind that fits
pub record Stands (fits : Option Kind → Bool) (i : Input) (t : Token) (j : Input) : Type 0 where
  pub is : i ≡ before t j
  pub kind : fits (Some t.kind) ≡ true

-- what stands one level further in
pub record Within : Type 1 where
  -- no level may be opened any more by a token that stands here
  pub is_deepest : Input → Bool
  pub reads : Inset → Phrase InsetTree

-- one token of this kind, which opens a level
pub record Opens (N : Within) (k : Kind) (i : Input) (t : Token) (j : Input) : Type 0 where
  pub token : Stands (is_kind k) i t j
  pub room : N.is_deepest i ≡ false

-- phrases one behind the other, as long as the next token lets the list go on
pub data Many {A : Type 0} (Item : Phrase A) (goes_on : Option Kind → Bool) : Input → List A → Input → Type 0 where
  none : (i : Input) → goes_on (kind i) ≡ false → Many Item goes_on i [] i
  more : (i j l : Input) (x : A) (xs : List A) → goes_on (kind i) ≡ true → Item i x j → Many Item goes_on j xs l →
      Many Item goes_on i (x ∷ xs) l

-- Phrases with a separator between them, and at most one at the end: the list ends where the next token ends it, and
-- behind a phrase that no separator follows.
mutual
  pub data Separated {A : Type 0} (ends : Option Kind → Bool) (separator : Kind) (Item : Phrase A) : Input → List A →
      Input → Type 0 where
    none : (i : Input) → ends (kind i) ≡ true → Separated ends separator Item i [] i
    some : (i j : Input) (xs : List A) → ends (kind i) ≡ false → SeparatedSome ends separator Item i xs j →
        Separated ends separator Item i xs j

  -- one phrase or more
  pub data SeparatedSome {A : Type 0} (ends : Option Kind → Bool) (separator : Kind) (Item : Phrase A) : Input →
      List A → Input → Type 0 where
    last : (i j : Input) (x : A) → Item i x j → is_kind separator (kind j) ≡ false →
        SeparatedSome ends separator Item i (x ∷ []) j
    more : (i j l m : Input) (x : A) (xs : List A) (t : Token) → Item i x j → Stands (is_kind separator) j t l →
        Separated ends separator Item l xs m → SeparatedSome ends separator Item i (x ∷ xs) m

-- a phrase, where the next token begins one, or nothing
pub data Maybe {A : Type 0} (Item : Phrase A) (begins : Option Kind → Bool) : Input → Option A → Input → Type 0 where
  left_out : (i : Input) → begins (kind i) ≡ false → Maybe Item begins i None i
  given : (i j : Input) (x : A) → begins (kind i) ≡ true → Item i x j → Maybe Item begins i (Some x) j

-- The next two tokens fit these.
pub record Begins (first second : Option Kind → Bool) (i : Input) : Type 0 where
  pub token : Token
  pub behind : Input
  pub stands : Stands first i token behind
  pub next : second (kind behind) ≡ true
