-- `in` with a value that is no data type on the left.
use Rattle.std.specs.Prelude.{ℕ, Bool, true, false, ◌||◌, ◌&&◌, ◌==◌, List, [], ◌∷◌}
use Rattle.std.specs.List.{list_any}
use Rattle.std.specs.Str.{str_to_ascii_lowercase}
use Rattle.pp_values.specs.Datum.{Datum, text, list, hash, members_of, pairs_of}
use Rattle.pp_values.specs.Equal.{equal}

-- the first text is the front of the second
abbrev pub begins : List ℕ → List ℕ → Bool
begins [] bs = true
begins (a ∷ rest) [] = false
begins (a ∷ rest) (b ∷ bs) = (a == b) && begins rest bs

-- the text begins at some place of the other
abbrev pub occurs : List ℕ → List ℕ → Bool
occurs t [] = begins t []
occurs t (b ∷ bs) = begins t (b ∷ bs) || occurs t bs

-- a text in a text, with ASCII letters folded
abbrev pub is_in_text : Datum → List ℕ → Bool
is_in_text (text a) b = occurs (str_to_ascii_lowercase a) (str_to_ascii_lowercase b)
is_in_text d b = false

-- a text in a text; a member of a list, or a key of a hash, that is equal; and else not
abbrev pub is_in : Datum → Datum → Bool
is_in d (text t) = is_in_text d t
is_in d (list ds) = list_any (equal d) (members_of ds)
is_in d (hash es) = list_any (λ p. equal d p.0) (pairs_of es)
is_in d e = false
