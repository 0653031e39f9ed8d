-- Texts in rising byte order, each once.
use Rattle.std.specs.Prelude.{ℕ, Bool, true, ◌&&◌, List, [], ◌∷◌}
use Rattle.std.specs.declared.cmp.Ordering.{Ordering}
use Rattle.std.specs.Ordering.{nat_cmp, is_lt}
use Rattle.std.specs.Cmp.Lexicographic.{slice_cmp}
use Rattle.std.specs.BTreeSet.{insert_key}
use Rattle.std.specs.List.{list_any}
use Rattle.std.specs.Str.{bytes_eq}

-- the order of texts: byte by byte
abbrev pub text_cmp : List ℕ → List ℕ → Ordering
text_cmp = slice_cmp nat_cmp

-- the text is below the first of the others, if there is one
abbrev pub precedes : List ℕ → List (List ℕ) → Bool
precedes t [] = true
precedes t (u ∷ us) = is_lt (text_cmp t u)

-- each text is below the next one, so that none stands twice
abbrev pub is_rising : List (List ℕ) → Bool
is_rising [] = true
is_rising (t ∷ ts) = precedes t ts && is_rising ts

-- the text is one of these
abbrev pub has_text : List (List ℕ) → List ℕ → Bool
has_text ts t = list_any (bytes_eq t) ts

-- the held texts, with each of the others put at its place in the order unless it stands there
abbrev pub with_texts : List (List ℕ) → List (List ℕ) → List (List ℕ)
with_texts held [] = held
with_texts held (t ∷ ts) = with_texts (insert_key text_cmp held t) ts

-- the texts in rising order, each once
abbrev pub sorted : List (List ℕ) → List (List ℕ)
sorted ts = with_texts [] ts
