-- Places in a list of pairs, of which the hash's own code speaks.
use Rattle.std.specs.Prelude.{ℕ, zero, suc, if◌then◌else◌, Option, None, Some, option_map, List, [], ◌∷◌}
use Rattle.pp_values.specs.Datum.{Datum, Pair}
use Rattle.pp_values.specs.Keys.{same_key}

-- the first pair with the key
abbrev pub place_of : Datum → List Pair → Option ℕ
place_of k [] = None
place_of k (p ∷ ps) = if same_key k p.0 then Some 0 else option_map suc (place_of k ps)

-- the pairs with the value at a place set
abbrev pub with_value : Datum → ℕ → List Pair → List Pair
with_value v n [] = []
with_value v zero (p ∷ ps) = (p.0, v) ∷ ps
with_value v (suc n) (p ∷ ps) = p ∷ with_value v n ps

abbrev pub without_place : ℕ → List Pair → List Pair
without_place n [] = []
without_place zero (p ∷ ps) = ps
without_place (suc n) (p ∷ ps) = p ∷ without_place n ps
