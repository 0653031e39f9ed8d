-- Which tags a resource has.
use Rattle.std.specs.Prelude.{◌≡◌, ◌↔◌, ℕ, Bool, true, false, IsTrue, not, ◌&&◌, ◌||◌, ◌==◌, if◌then◌else◌, List, []}
use Rattle.std.specs.Prelude.{◌∷◌, ◌++◌, map, filter}
use Rattle.std.specs.List.{list_all, list_any, onto_first}
use Rattle.std.specs.Char.{to_ascii_lowercase, is_ascii_alphanumeric, is_ascii_uppercase}
use Rattle.std.specs.Str.{str_eq_ignore_ascii_case}
use Rattle.pp_values.specs.Rising.{is_rising, has_text, sorted}

-- the parts of a name between its `::`, which are found from the left; empty parts too
unfoldable pub segments : List ℕ → List (List ℕ)
segments [] = [] ∷ []
segments (a ∷ []) = (a ∷ []) ∷ []
segments (a ∷ b ∷ rest) = if (a == 58) && (b == 58) then [] ∷ segments rest else onto_first a (segments (b ∷ rest))

abbrev pub is_filled : List ℕ → Bool
is_filled [] = false
is_filled (b ∷ bs) = true

-- an ASCII letter, a digit or `_`
unfoldable pub is_word_byte : ℕ → Bool
is_word_byte b = is_ascii_alphanumeric b || (b == 95)

-- one of these, or `:`, `.` or `-`
unfoldable pub is_tag_byte : ℕ → Bool
is_tag_byte b = is_word_byte b || (b == 58) || (b == 46) || (b == 45)

-- the title may be a tag
abbrev pub is_taggable : List ℕ → Bool
is_taggable [] = false
is_taggable (b ∷ bs) = is_word_byte b && list_all is_tag_byte bs

-- a name and its segments
abbrev pub with_segments : List ℕ → List (List ℕ)
with_segments name = name ∷ filter is_filled (segments name)

-- the kind and its segments; the title and its segments, where it may be a tag; the texts given; the container's tags
abbrev pub names : List ℕ → List ℕ → List (List ℕ) → List (List ℕ) → List (List ℕ)
names kind title given container =
    with_segments kind ++ ((if is_taggable title then with_segments title else []) ++ (given ++ container))

-- no ASCII letter in upper case
abbrev pub is_lower_byte : ℕ → Bool
is_lower_byte b = not (is_ascii_uppercase b)

-- in lower case, as far as the letters are ASCII
abbrev pub lowered : List ℕ → List ℕ
lowered = map to_ascii_lowercase

-- the tags, in rising byte order, each once
abbrev pub tags : List ℕ → List ℕ → List (List ℕ) → List (List ℕ) → List (List ℕ)
tags kind title given container = sorted (map lowered (names kind title given container))

-- the second list holds what the first one holds, these texts, and nothing else
abbrev pub AddsTexts : List (List ℕ) → List (List ℕ) → List (List ℕ) → Type 0
AddsTexts old new ts = (t : List ℕ) → has_text new t ≡ (has_text old t || has_text ts t)

-- some tag is this text, with ASCII letters folded
abbrev pub is_tagged : List (List ℕ) → List ℕ → Bool
is_tagged ts text = list_any (str_eq_ignore_ascii_case text) ts

-- The tags rise and hold exactly the names in lower case, and no other list does both.
abbrev pub TagsAreTheSet : Type 0
TagsAreTheSet =
    (kind title : List ℕ) (given container ts : List (List ℕ)) →
    (ts ≡ tags kind title given container)
    ↔ (IsTrue (is_rising ts)
    × ((t : List ℕ) → has_text ts t ≡ has_text (map lowered (names kind title given container)) t))
