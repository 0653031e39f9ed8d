-- Parts of a value by a dotted key.
use Rattle.std.specs.Prelude.{ℕ, ◌+◌, ◌*◌, ◌-◌, ◌==◌, if◌then◌else◌, List, [], ◌∷◌, Option, Some, None, option_and_then}
use Rattle.std.specs.Prelude.{slice_get}
use Rattle.std.specs.List.{slice_split}
use Rattle.std.specs.Char.{is_ascii_digit}
use Rattle.pp_values.specs.Datum.{Datum, text, list, hash, members_of, pairs_of}
use Rattle.pp_values.specs.Keys.{value_at}

-- the parts between the dots: the root key, and the steps behind it
abbrev pub parts : List ℕ → List (List ℕ)
parts key = slice_split (λ b. b == 46) key

abbrev pub root : List (List ℕ) → List ℕ
root [] = []
root (first ∷ rest) = first

abbrev pub steps : List (List ℕ) → List (List ℕ)
steps [] = []
steps (first ∷ rest) = rest

-- the number that decimal digits spell, behind those of `n`
abbrev pub place_from : ℕ → List ℕ → Option ℕ
place_from n [] = Some n
place_from n (b ∷ bs) = if is_ascii_digit b then place_from (n * 10 + (b - 48)) bs else None

-- the place that a step names: one decimal digit or more
abbrev pub place_of : List ℕ → Option ℕ
place_of [] = None
place_of (b ∷ bs) = place_from 0 (b ∷ bs)

-- the value of a text key of a hash, or the member of a list at a place
abbrev pub member : List ℕ → Datum → Option Datum
member step (hash es) = value_at (text step) (pairs_of es)
member step (list ds) = option_and_then (slice_get (members_of ds)) (place_of step)
member step d = None

abbrev pub dug : List (List ℕ) → Datum → Option Datum
dug [] d = Some d
dug (step ∷ rest) d = option_and_then (dug rest) (member step d)
