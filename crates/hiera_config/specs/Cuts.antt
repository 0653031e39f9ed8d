-- Texts that are cut at a mark, and their blanks.
use Rattle.std.specs.Prelude.{ℕ, ◌-◌, ◌==◌, Bool, ◌||◌, if◌then◌else◌, nat_eq, List, [], ◌∷◌, length, take, drop}
use Rattle.std.specs.Prelude.{Option, None, Some, option_map}
use Rattle.std.specs.List.{starts_with, ends_with}

-- a text in two
abbrev pub Cut : Type 0
Cut = List ℕ × List ℕ

abbrev pub longer : ℕ → Cut → Cut
longer b c = (b ∷ c.0, c.1)

-- what stands before the first such mark, and what behind it
unfoldable pub cut_at : List ℕ → List ℕ → Option Cut
cut_at mark [] = None
cut_at mark (b ∷ bs) =
    if starts_with nat_eq (b ∷ bs) mark then Some ([], drop (length mark) (b ∷ bs))
    else option_map (longer b) (cut_at mark bs)

-- what stands behind the mark that the text begins with
abbrev pub after_prefix : List ℕ → List ℕ → Option (List ℕ)
after_prefix mark text = if starts_with nat_eq text mark then Some (drop (length mark) text) else None

-- what stands before the mark that the text ends with
abbrev pub before_suffix : List ℕ → List ℕ → Option (List ℕ)
before_suffix mark text = if ends_with nat_eq text mark then Some (take (length text - length mark) text) else None

-- a space, a tab, or the end of a line
abbrev pub is_blank : ℕ → Bool
is_blank b = (32 == b) || ((9 == b) || ((13 == b) || (10 == b)))

unfoldable pub trimmed_start : List ℕ → List ℕ
trimmed_start [] = []
trimmed_start (b ∷ bs) = if is_blank b then trimmed_start bs else b ∷ bs

abbrev pub before_blanks : ℕ → List ℕ → List ℕ
before_blanks b [] = if is_blank b then [] else b ∷ []
before_blanks b (c ∷ cs) = b ∷ c ∷ cs

unfoldable pub trimmed_end : List ℕ → List ℕ
trimmed_end [] = []
trimmed_end (b ∷ bs) = before_blanks b (trimmed_end bs)

-- without the blanks at both ends
abbrev pub trimmed : List ℕ → List ℕ
trimmed text = trimmed_end (trimmed_start text)

-- the text behind a blank that it begins with, and before one that it ends with
abbrev pub or_text : Option (List ℕ) → Option (List ℕ) → Option (List ℕ)
or_text None other = other
or_text (Some t) other = Some t

abbrev pub without_first_blank : List ℕ → Option (List ℕ)
without_first_blank text =
    or_text (after_prefix (32 ∷ []) text)
    (or_text (after_prefix (9 ∷ []) text) (or_text (after_prefix (13 ∷ []) text) (after_prefix (10 ∷ []) text)))

abbrev pub without_last_blank : List ℕ → Option (List ℕ)
without_last_blank text =
    or_text (before_suffix (32 ∷ []) text)
    (or_text (before_suffix (9 ∷ []) text) (or_text (before_suffix (13 ∷ []) text) (before_suffix (10 ∷ []) text)))
