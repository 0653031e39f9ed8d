-- How kinds, titles and references are printed.
use Rattle.std.specs.Prelude.{◌≡◌, ℕ, ◌==◌, Bool, IsTrue, ◌||◌, if◌then◌else◌, List, [], ◌∷◌, ◌++◌, codes}
use Rattle.std.specs.Char.{to_ascii_uppercase}
use Rattle.pp_values.specs.declared.reference.Reference.{Reference}
use Rattle.pp_values.specs.Kinds.{is_kind}

-- `'` and `\\`
abbrev pub is_quote_or_backslash : ℕ → Bool
is_quote_or_backslash b = (b == 39) || (b == 92)

-- each `'` and each backslash has a backslash before it
abbrev pub escaped : List ℕ → List ℕ
escaped [] = []
escaped (b ∷ bs) = if is_quote_or_backslash b then 92 ∷ b ∷ escaped bs else b ∷ escaped bs

abbrev pub quoted : List ℕ → List ℕ
quoted t = codes "'" ++ escaped t ++ codes "'"

-- a letter directly after a colon is upper-cased; `last` is the byte before
abbrev pub capitalised_after : ℕ → List ℕ → List ℕ
capitalised_after last [] = []
capitalised_after last (b ∷ bs) = (if last == 58 then to_ascii_uppercase b else b) ∷ capitalised_after b bs

-- a kind of resource as it is printed: each segment of `web::vhost` begins with a capital, `Web::Vhost`
abbrev pub kind_text : List ℕ → List ℕ
kind_text k = capitalised_after 58 k

-- a reference in documents and faults: `File[/tmp]`
abbrev pub reference_text : Reference → List ℕ
reference_text r = kind_text r.kind ++ codes "[" ++ r.title ++ codes "]"

-- a reference in an interpolated text: `File['/tmp']`
abbrev pub quoted_reference_text : Reference → List ℕ
quoted_reference_text r = kind_text r.kind ++ codes "[" ++ quoted r.title ++ codes "]"

-- what stands before item `n` of a list
abbrev pub before : ℕ → List ℕ
before n = if n == 0 then [] else codes ", "

-- References to resources are printed apart.
abbrev pub ArePrintedApart : Type 0
ArePrintedApart =
    (r s : Reference) → IsTrue (is_kind r.kind) → IsTrue (is_kind s.kind) → reference_text r ≡ reference_text s → r ≡ s
