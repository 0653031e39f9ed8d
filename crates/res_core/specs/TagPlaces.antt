-- Where a text stands among rising texts.
use Rattle.std.specs.Prelude.{ℕ, suc, List, [], ◌∷◌, Result, Ok, Err}
use Rattle.std.specs.Ordering.{match_ordering}
use Rattle.pp_values.specs.Rising.{text_cmp}

-- one place further on
abbrev pub one_on : Result ℕ ℕ → Result ℕ ℕ
one_on (Ok place) = Ok (suc place)
one_on (Err place) = Err (suc place)

-- where the text stands, or else where it would
unfoldable pub place_in : List ℕ → List (List ℕ) → Result ℕ ℕ
place_in text [] = Err 0
place_in text (t ∷ ts) = match_ordering (text_cmp text t) (Err 0) (Ok 0) (one_on (place_in text ts))
